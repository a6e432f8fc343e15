pub mod Simple
pub mod NumberLemmas
pub mod RateLemmas
pub mod CommandLemmas
pub mod EndLemmas
pub mod Ranges
pub mod FirstWord
pub mod Worked
