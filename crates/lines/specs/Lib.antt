-- The definitions that the contracts cite.
pub mod Cut
pub mod Digits
pub mod Grammar
pub mod Left
pub mod Views
