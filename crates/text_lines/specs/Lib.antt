pub mod Lines
pub mod Scans
-- What a program prints that works line by line.
pub mod Programs
-- A whole run of it.
pub mod WholeRun
pub mod Examples
