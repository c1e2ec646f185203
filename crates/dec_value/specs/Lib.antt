pub mod Decimal
pub mod Grammar
pub mod Literal
