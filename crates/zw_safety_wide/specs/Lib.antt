pub mod WideCastCode
pub mod WideSignedCode
pub mod WideSaturatingCode
pub mod WideShiftCode
pub mod WideReversalCode
pub mod WideFamilies
