pub mod HashTypeFacts
