pub mod Tops
pub mod VersionOrder
pub mod ChoiceOrder
pub mod Existence
pub mod Firsts
pub mod Lent
