-- What the contracts cite: bits of bytes, planes as they stand in a stack.
pub mod Scratch
pub mod Loops
pub mod Rows
-- Laws about them.
pub mod Bits
pub mod Planes
pub mod Filling
pub mod Packed
pub mod Stretches
