mod ArgumentLemmas
mod LineLemmas
mod ReplyLemmas
pub mod RequestLemmas
mod SourceLemmas
mod TextLemmas
