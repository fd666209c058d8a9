pub mod Model
pub mod Moves
pub mod Calls
pub mod Agreement
pub mod Example
