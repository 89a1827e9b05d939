pub mod ReplayLine
