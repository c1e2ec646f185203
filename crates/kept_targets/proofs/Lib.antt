pub mod Links
pub mod Firsts
pub mod Seeing
pub mod Staying
pub mod Looking
pub mod Leaving
pub mod Down
pub mod Named
mod Among
mod Uncounted
mod Counts
mod Adding
mod Signs
mod Around
mod Coded
mod Touching
mod Marking
mod Scopes
mod Retargeted
mod Opened
mod Sited
mod Bridged
mod Emptied
mod Rooted
