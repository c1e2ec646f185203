pub mod Rising
pub mod Mapping
pub mod Firsts
pub mod TotalLaws
pub mod MemberLaws
pub mod GroupLaws
pub mod CellLaws
pub mod RangeLaws
