pub mod HeldFacts
pub mod HeadFacts
