pub mod TemplateSteps
pub mod TemplateFacts
pub mod ValidatedFacts
pub mod GrowingCauses
pub mod IdFacts
pub mod RotatingSteps
