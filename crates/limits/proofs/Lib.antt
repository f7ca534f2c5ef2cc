pub mod Settings
pub mod Padding
pub mod Lengths
