-- Laws that the functions' proofs cite.
mod Describing
mod Putting
