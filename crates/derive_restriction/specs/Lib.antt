pub mod Uses
pub mod Wildcards
pub mod Contents
pub mod Restrictions
pub mod Given
pub mod AttrGroupRestrictions
pub mod DerivationFaults
pub mod FaultsGiven
