pub mod NumberedCircles
pub mod Descent
pub mod Order
pub mod Heights
pub mod Ranked
pub mod References
pub mod Circles
pub mod inside
