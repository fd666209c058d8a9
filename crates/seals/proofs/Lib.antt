mod Searches
mod Adds
pub mod Signing
