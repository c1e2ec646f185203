pub mod SetLaws
pub mod ChangeLaws
