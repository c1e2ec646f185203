pub mod BelowLaws
pub mod ChainLaws
pub mod FaultLaws
pub mod InnerLaws
pub mod NumberLaws
pub mod OwnLaws
