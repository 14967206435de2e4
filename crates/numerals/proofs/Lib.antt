pub mod TestLaws
pub mod ByteLaws
pub mod DigitLaws
pub mod CountLaws
pub mod SignLaws
pub mod SizeLaws
