mod OneAnswer
pub mod OptionLaws
pub mod RecordIs
