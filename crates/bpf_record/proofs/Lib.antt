pub mod RecordLaws
pub mod Marking
