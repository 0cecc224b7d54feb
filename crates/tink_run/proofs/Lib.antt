pub mod RunLemmas
pub mod OpenLemmas
pub mod Promises
pub mod EndingSteps
pub mod SealSteps
pub mod LoadLemmas
pub mod ReadOut
pub mod OpenSteps
pub mod ReadsSteps
pub mod RunSteps
pub mod ReadEndings
pub mod LoadedFacts
pub mod LoadSteps
mod StandardFacts
pub mod RotationLaws
pub mod FitFacts
pub mod OneKeyFacts
pub mod RoomFacts
