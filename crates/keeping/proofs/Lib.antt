-- Labels joined, and what a subject needs by its own handles (Joined); figures when handles go (Closing), and when one comes (Opens). Assumes nothing.
pub mod Joined
pub mod Closing
pub mod Opens
