mod BlameLemmas
mod BuildLemmas
mod CommandLemmas
mod CompileLemmas
mod DueLemmas
mod ExecDueLemmas
mod ExecLemmas
mod ExecServeLemmas
mod FoundLemmas
mod LineLemmas
mod NamedLemmas
mod PrepareLemmas
mod ReadLemmas
mod ServeLemmas
mod TextLemmas
mod ValidateDueLemmas
mod ValidateLemmas
pub mod FittingLemmas
