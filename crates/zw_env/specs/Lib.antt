pub mod Parts
pub mod Children
pub mod Counting
pub mod WorkedCounts
pub mod SoundParts
pub mod FlowParts
pub mod FlowChildren
