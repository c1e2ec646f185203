pub mod ScopeLaws
pub mod OpenLaws
pub mod MemberLaws
pub mod BehindLaws
pub mod ReadLaws
pub mod SetLaws
pub mod NumberLaws
pub mod ChangeLaws
