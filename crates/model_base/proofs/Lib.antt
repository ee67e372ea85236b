pub mod ByteLemmas
pub mod ShapeLimits
pub mod SpellingLemmas
pub mod TableLemmas
