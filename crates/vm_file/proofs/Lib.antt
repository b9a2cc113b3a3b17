pub mod Touches
pub mod Pieces
pub mod Moments
pub mod FaultLaws
mod SteadyDevices
pub mod FileExamples
pub mod ReadLaws
pub mod SpellLaws
pub mod Lengths
pub mod ReadSteps
pub mod EntrySteps
pub mod OpenSteps
pub mod StateLaws
pub mod StopLaws
pub mod Listing
pub mod BlockLaws
pub mod DirectoryLaws
pub mod PlaceLaws
pub mod OneSpelling
pub mod NewFiles
pub mod Filling
mod Given
pub mod Blocks
pub mod Sources
pub mod CommitLaws
pub mod CommitEnds
pub mod Kept
