pub mod TellingLaws
pub mod Determined
pub mod Fits
pub mod StoredFit
pub mod RunsFit
pub mod Apart
pub mod TextLaws
