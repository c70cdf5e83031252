pub mod Taking
pub mod Reading
pub mod Coding
pub mod Ends
pub mod LocalLemmas
pub mod RefusedLemmas
pub mod OutsideLemmas
pub mod SizeLemmas
