mod Sites
mod Lists
mod Changing
mod Ends
mod Tracing
mod Traced
mod Along
mod Owned
