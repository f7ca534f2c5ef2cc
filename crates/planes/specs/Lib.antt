-- What the contracts cite: planes in scratch, rows of them, near by rows.
pub mod Scratch
pub mod Nearness
-- Laws about them.
pub mod PlaneLaws
pub mod TouchLaws
pub mod NearLaws
