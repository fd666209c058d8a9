pub mod Readings
pub mod Setups
pub mod Schemes
