-- What the contracts cite: rows that are worked on, what a wave leaves, planes of waves.
pub mod Rows
pub mod Fronts
-- Laws about them.
pub mod RowLaws
pub mod WaveLaws
