pub mod Fun
pub mod Formula
pub mod Needed
pub mod Table
pub mod Lookup
pub mod internal
