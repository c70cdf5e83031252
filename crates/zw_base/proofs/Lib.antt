pub mod KnownLemmas
mod NumberLemmas
