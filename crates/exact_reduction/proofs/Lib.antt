pub mod RetirementReduction
