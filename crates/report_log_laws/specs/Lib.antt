-- Laws of updates, stretches of logs and cuts.
pub mod Stretches
pub mod UpdateLaws
pub mod CutLaws
pub mod Ends
