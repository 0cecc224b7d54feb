pub mod BuildingFacts
pub mod GivenEach
