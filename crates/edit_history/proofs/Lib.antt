pub mod Histories
pub mod Logged
mod Meaning
mod Leading
pub mod Remembering
mod Latest
mod Tables
mod UpTo
mod Walks
