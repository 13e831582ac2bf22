-- What the program prints of two texts.
pub mod Program
