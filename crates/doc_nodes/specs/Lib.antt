pub mod Nodes
pub mod Firsts
pub mod FirstLaws
pub mod Slots
pub mod Linked
pub mod Families
