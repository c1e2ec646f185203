pub mod UsableLaws
pub mod ModelLaws
