pub mod Region
pub mod Lending
