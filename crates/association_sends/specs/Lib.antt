pub mod Due
pub use Rattle.association_words.specs as association_words
