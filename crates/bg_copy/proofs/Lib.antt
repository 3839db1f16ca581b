mod Counting
mod Waiting
