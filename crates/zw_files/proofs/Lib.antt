pub mod PathLemmas
pub mod FollowLemmas
pub mod NameLemmas
pub mod TurnLemmas
pub mod DiscoveryLemmas
pub mod RootLemmas
pub mod NameNumbers
