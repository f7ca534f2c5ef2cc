pub mod Text
pub mod Lines
pub mod Counts
pub mod Whole
pub mod Printed
