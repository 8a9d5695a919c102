pub use Rattle.ber_spelling.specs.Reading
pub use Rattle.ber_spelling.specs.Rules
pub use Rattle.ber_spelling.specs.Spelling
pub use Rattle.asn1_types.specs.Writing
pub use Rattle.ber_reading.specs.Calls
