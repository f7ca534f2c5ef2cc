-- Any two outcomes of an exported call are equal.
pub mod Outcomes
-- Laws of reading.
pub mod Reading
