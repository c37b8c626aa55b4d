pub mod SmallSet
pub mod Budgets
pub mod BudgetsInC
pub mod Sections
pub mod OneOutcome
