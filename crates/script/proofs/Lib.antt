pub mod Receiving
pub mod Digits
pub mod Turns
