pub mod OneOf
