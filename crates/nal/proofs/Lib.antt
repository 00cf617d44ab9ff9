-- laws that several proofs cite
mod Putting
mod Steps
