-- What the contracts cite.
pub mod Amiss
-- Laws about it.
pub mod NeighbourLaws
