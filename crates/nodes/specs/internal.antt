-- The vocabulary between functions of this crate and of those above it. No contract of a public entry cites it.
pub mod Growth
pub mod Packed
pub mod Parts
pub mod Index
pub mod Make
pub mod Operate
pub mod Start
pub mod Work
pub mod Quantify
pub mod Lent
pub mod Single
pub mod Zero
pub mod Several
pub mod Spaced
