pub mod Order
pub mod Next
pub mod inside
pub mod Words
pub mod Spaces
pub mod Place
pub mod Held
pub mod Answers
