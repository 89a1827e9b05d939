pub mod FirstRefusal
pub mod Admission
pub mod ForgedStates
