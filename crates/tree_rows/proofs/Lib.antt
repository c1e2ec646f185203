mod Cutting
mod Counting
