pub mod LandedWrites
