-- What the contracts cite: the rings and the support of a pair, its rows found, scratch between pairs.
pub mod Pairs
pub mod Found
-- Laws about them.
pub mod FoundLaws
pub mod ExcuseLaws
pub mod PairLaws
pub mod HangLaws
pub mod BareLaws
