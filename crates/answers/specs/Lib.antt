-- How answers are packed.
pub mod Packed
-- Laws about it.
pub mod Seen
pub mod Filled
