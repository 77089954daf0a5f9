-- What is told of each thing, by what is told of its members or its items.
pub mod Behind
pub mod Steps
pub mod Fresh
pub mod Members
