pub mod EditLaws
mod EditFacts
pub mod EnabledLaw
pub mod FirstPlaces
pub mod FreshIds
pub mod IdsLaw
pub mod KeysLaw
pub mod PrimaryLaw
mod SmallKeys
pub mod Steps
pub mod ValidLaw
mod ValidityFacts
