pub mod FirstLaws
pub mod NameLaws
pub mod RunLaws
pub mod LineLaws
pub mod TypeLaws
pub mod ContentLaws
pub mod DeclaredLaws
