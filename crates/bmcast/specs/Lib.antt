-- What the clauses of `bmcast` cite: start with Run, then Status.
pub mod Run
pub mod Guest
pub mod Status
pub mod StatusLine
pub mod Chosen
pub mod Lengths
pub mod Known
pub mod Files
pub mod Owed
-- Inner: what its steps owe one another, which no clause of it cites.
pub mod SetUp
pub mod Stages
pub mod Stop
pub mod Kept
pub mod Streams
pub mod GuestRuns
pub mod Played
