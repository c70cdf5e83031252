pub mod DeclarationRules
pub mod FlowDeclarationRules
