pub mod ByteLaws
pub mod Chains
pub mod EdgeLaws
pub mod LayoutLaws
pub mod OneForm
pub mod ReadBack
pub mod Said
pub mod Written
