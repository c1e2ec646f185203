mod LineSymbols
pub mod LineFits
pub mod Orders
mod Pushing
pub mod Words
pub mod Symbols
pub mod Fits
pub mod Places
pub mod Spaces
pub mod Answered
pub mod Printed
pub mod One
pub mod Written
