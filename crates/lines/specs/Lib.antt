-- What this crate's contracts cite: what a line is (Line), how it is read from left to right (Reading), what the reader's structs say of that (Told), and the calls that it stands for (Calls). Below each are its
-- laws, which nobody has to believe. Assumes nothing.
pub mod Line
pub mod Reading
pub mod Told
pub mod Calls
