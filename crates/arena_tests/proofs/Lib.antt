mod Loosened
mod Fitting
