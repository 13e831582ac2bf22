-- The vocabulary between functions of this crate and of those above it. No definition of what a text says cites it.
pub mod Cut
pub mod Decoded
pub mod Alone
pub mod Accepted
pub mod Lines
pub mod Padded
