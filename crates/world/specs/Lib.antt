-- What the clauses of `World` cite.
pub mod Faults
pub mod WorldState
pub mod Reserved
pub mod Coupled
pub mod Looked
-- Inner: what the drive and the guest's memory mean, and what an event does to the network.
pub mod Machine
pub mod Conveying
pub mod Acting
pub mod Deployed
pub mod Keeping
