-- The lemmas of this crate.
mod Cutting
mod Naming
mod Reading
