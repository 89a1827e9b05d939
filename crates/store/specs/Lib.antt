-- The promise of the calls on a store that a program keeps.
pub mod Kept
