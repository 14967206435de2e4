pub mod Buffers
pub mod Cases
pub mod Kept
pub mod OneAnswer
pub mod PlaceLaws
pub mod PlacesAre
pub mod PositionLaws
