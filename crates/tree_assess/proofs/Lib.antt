mod Same
mod Governed
mod Pairs
mod Counting
mod Forests
mod Root
mod Steps
mod Below
