-- What records tell of tests (Testing), the first test that fails (Finding), and of each call by what its refusal is told (Asking). Assumes nothing.
pub mod Testing
pub mod Finding
pub mod Asking
