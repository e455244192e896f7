-- What is told of a refusal 9: the struct (Why), and the chain by slot (Working). Assumes nothing.
pub mod Why
pub mod Working
