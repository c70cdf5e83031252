pub mod Violations
pub mod ReadLemmas
pub mod MarkLemmas
pub mod RuleLemmas
pub mod RepeatLemmas
pub mod CheckLemmas
pub mod MemberLemmas
pub mod ToldAtNodes
