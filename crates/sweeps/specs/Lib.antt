-- What the contracts cite.
pub mod Rings
pub mod Marks
pub mod Telling
-- Laws about it.
pub mod Relaxing
pub mod MarkLaws
pub mod TellLaws
pub mod VisitLaws
pub mod SweepLaws
