pub mod HexPairs
pub mod Integers
pub mod Keys
pub mod LanguageParts
pub mod Named
pub mod Pointwise
