-- What the contracts cite: words, rows of them, and what stores leave.
pub mod Words
-- Laws about them.
pub mod Digits
pub mod WordLaws
pub mod RowLaws
pub mod CountLaws
pub mod SingleLaws
pub mod OneLaws
