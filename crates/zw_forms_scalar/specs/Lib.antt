pub mod Primitives
pub mod Operators
pub mod Builtins
pub mod ScalarRules
pub mod FlowPrimitives
pub mod FlowOperators
pub mod FlowBuiltins
pub mod FlowScalarRules
