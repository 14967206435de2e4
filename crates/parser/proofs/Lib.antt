pub mod ScanLaws
pub mod ValueLaws
pub mod ReadLaws
pub mod FillLaws
pub mod OneAnswer
