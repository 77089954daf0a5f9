-- What holds of what is read, for the proofs of other crates.
pub use Rattle.bep_document.proofs.read.Readers.{Reads, list_read, few_read, member_read}
pub use Rattle.bep_document.proofs.read.DevicesKnown.{devices_known, known_are_of}
pub use Rattle.bep_document.proofs.faults.NoFault.{all_map}
