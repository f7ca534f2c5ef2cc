-- The rules of docs/RULES.md as definitions, in reading order.
pub mod Tools
pub mod Images
pub mod Reach
pub mod Planning
pub mod Cleaning
pub mod Posts
pub mod Judging
pub mod Jobs
pub mod Calls
pub mod Report
pub mod Outcomes
pub mod Demands
