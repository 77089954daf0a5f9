pub mod BlockSizeFacts
mod Cuts
mod LengthFacts
mod MergeFacts
pub mod VectorFacts
pub mod ConflictFacts
mod FolderFacts
