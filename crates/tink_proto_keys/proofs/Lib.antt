pub mod WrittenFields
