pub mod SoundNew
pub mod MasterNames
pub mod HomeBuilt
pub mod BitRuns
pub mod RunsOn
pub mod LabelMade
pub mod Building
pub mod Counting
