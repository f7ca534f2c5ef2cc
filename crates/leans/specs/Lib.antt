-- What the contracts cite.
pub mod Leaning
-- Laws about it.
pub mod BitLaws
pub mod Joined
pub mod RowLaws
