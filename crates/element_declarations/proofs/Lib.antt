mod ClassLaws
mod Deciding
mod KeyLaws
pub mod BlockLaws
pub mod StandLaws
pub mod OrderLaws
pub mod GroupLaws
pub mod HeadLaws
pub mod NearestLaws
pub mod JoinLaws
pub mod NamedLaws
