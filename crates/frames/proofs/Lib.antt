pub mod Numbers
pub mod Placing
pub mod Linking
pub mod Trips
pub mod Reading
pub mod Texting
pub mod Fitting
