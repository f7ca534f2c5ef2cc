-- What the contracts cite.
pub mod Far
pub mod Layers
-- Laws about them.
pub mod FarLaws
pub mod PackLaws
pub mod StretchLaws
pub mod LayerLaws
pub mod CallLaws
