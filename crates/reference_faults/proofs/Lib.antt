pub mod LimitLaws
pub mod CodeLaws
pub mod OriginLaws
pub mod NamedLaws
pub mod FoundLaws
