pub mod DeclMachine
pub mod ItemMachine
pub mod RuleMachine
pub mod TermMachine
pub mod TypeMachine
