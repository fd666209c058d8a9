mod Mapping
mod Wanting
pub mod Decidings
pub mod Lists
pub mod Weights
pub mod Worlds
pub mod View
pub mod Naming
pub mod Rebagging
pub mod Steps
pub mod Seating
pub mod Accepting
pub mod Launching
pub mod Receiving
pub mod Delivering
pub mod Speaking
pub mod Hearing
pub mod Clocking
pub mod Refusing
pub mod Settled
pub mod Tied
pub mod Promising
pub mod Making
pub mod Stepping
pub mod Keeping
