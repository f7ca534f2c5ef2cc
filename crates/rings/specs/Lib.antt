-- What the contracts cite: the near pixels of a shadow, waves that have come in, rows of bytes as bits.
pub mod NearRings
-- Laws about them.
pub mod ByteLaws
pub mod FarLaws
pub mod SweepingLaws
pub mod EndLaws
