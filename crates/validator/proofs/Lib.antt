pub mod ListLaws
pub mod OneAnswer
pub mod RowLaws
