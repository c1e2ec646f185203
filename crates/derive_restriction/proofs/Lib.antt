pub mod UseLaws
pub mod WildcardLaws
pub mod TextLaws
pub mod ContentLaws
pub mod RestrictionLaws
pub mod AttrGroupLaws
pub mod SumLaws
