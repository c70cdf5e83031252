pub mod SayLemmas
pub mod TableLemmas
pub mod ListLemmas
pub mod BoundLemmas
pub mod SiteLemmas
pub mod PlacingLemmas
pub mod RootLemmas
pub mod PlaceLemmas
