pub mod Counting
pub mod Judging
pub mod Reading
pub mod Line
pub mod Calls
