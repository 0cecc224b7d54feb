pub mod Growing
pub mod NamedTemplates
pub mod Rotating
pub mod TemplateLines
