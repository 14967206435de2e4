pub mod LetterLaws
pub mod CommonLaws
pub mod OfferLaws
