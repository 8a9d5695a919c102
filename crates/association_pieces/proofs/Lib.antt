pub mod NewestEnd
