-- What the contracts cite.
pub mod Stacks
-- Laws about it.
pub mod StackLaws
pub mod CallLaws
