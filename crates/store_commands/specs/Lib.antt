pub mod Faults
pub mod Opening
pub mod Init
pub mod Runs
pub mod Records
pub mod RecordLines
pub mod LinesTaken
