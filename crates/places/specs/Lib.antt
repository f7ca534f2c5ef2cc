-- What the contracts cite.
pub mod Search
-- Laws about it.
pub mod BitLaws
pub mod Finding
pub mod Planes
pub mod Rows
