pub mod WideCode
pub mod WideBitCode
pub mod WideOrderCode
pub mod WideTruthCode
