-- What the contracts cite: what a post takes away, the scan, the stack.
pub mod Taking
pub mod Scanning
pub mod Stacks
-- Laws about them.
pub mod TwoLaws
pub mod AlongLaws
pub mod LookLaws
pub mod GrowLaws
pub mod TakeLaws
pub mod ScanLaws
pub mod LayerLaws
pub mod StackLaws
pub mod CallLaws
