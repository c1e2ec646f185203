pub mod Buckets
pub mod PatternText
