pub mod ReadyLaws
