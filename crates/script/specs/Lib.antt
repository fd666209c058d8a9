pub mod Printing
pub mod Settings
pub mod Calls
pub mod Transcript
