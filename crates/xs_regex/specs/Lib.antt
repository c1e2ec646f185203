pub mod Sets
pub mod Listed
pub mod Words
pub mod Program
pub mod Expression
pub mod Ready
pub mod Outcome
pub mod Meaning
