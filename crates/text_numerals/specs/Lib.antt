-- Numbers in decimal: printed, and read at the front of some bytes.
pub mod Decimal
-- Bytes as pairs of hexadecimal digits: printed and read.
pub mod Pairs
-- A text in a lent buffer.
pub mod Put
-- What the reader's answers stand for.
pub mod Fields
