pub mod Laws
pub use Rattle.said_spellings.specs as said_spellings
