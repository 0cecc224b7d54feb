pub use Rattle.tink_program_core.specs.Program
pub use Rattle.tink_program_core.specs.Words
