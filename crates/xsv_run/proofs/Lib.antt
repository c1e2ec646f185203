pub mod Telling
pub mod Items
pub mod Going
pub mod Streams
pub mod Replies
pub mod Present
pub mod Complete
pub mod Trying
mod Authors
