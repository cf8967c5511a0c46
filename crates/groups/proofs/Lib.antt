mod KindLaws
pub mod WireLaws
pub mod SteadyLaws
pub mod Timed
pub mod StimulusLaws
pub mod ExpectLaws
pub mod TurnLaws
pub mod RunLaws
pub mod GroupLaws
