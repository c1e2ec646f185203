pub mod ScopeLaws
pub mod TagLaws
pub mod DoubleLaws
pub mod TableLaws
pub mod NumberedScopes
pub mod PackedLaws
pub mod SeenLaws
