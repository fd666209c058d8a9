mod Entering
mod Linking
mod Named
pub mod Outcomes
pub mod Dropping
pub mod Sealing
