pub mod CarriedEntryLaws
pub mod CarryLaws
pub mod ToldLaws
mod ReferenceLaws
mod FaultLaws
mod EntryLaws
mod LoopLaws
mod OwnLaws
mod TargetLaws
pub mod ViewLaws
