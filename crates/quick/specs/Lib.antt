-- What the contracts cite.
pub mod Sureness
-- Laws about it.
pub mod RowsOfPair
pub mod NearByThemselves
pub mod Hanging
pub mod Layers
pub mod Stacks
