-- Where the figure of a thing stands. Assumes nothing.
pub mod Things
