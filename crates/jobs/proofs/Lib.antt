pub mod ReadLaws
pub mod UnpackLaws
pub mod PackLaws
