mod Adding
mod Ending
mod Attributing
mod Walking
mod Extending
mod Selecting
mod Looking
