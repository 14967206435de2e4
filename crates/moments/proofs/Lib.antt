pub mod MonthLaws
pub mod ReadLaws
pub mod FieldLaws
pub mod MomentLaws
