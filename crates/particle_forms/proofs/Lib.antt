pub mod ModelLaws
pub mod RangeLaws
pub mod MadeLaws
pub mod NodeLaws
pub mod AcceptedLaws
pub mod UnrollLaws
