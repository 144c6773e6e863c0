-- Theorems that rest on what a wrong program may refuse.
pub mod CutLaws
pub mod CutLawsAfter
