use Rattle.bep_document.proofs.ReadFaultless.{reading_faultless, reading_in_range, cut_faultless, cut_document_faultless}
use Rattle.bep_document.proofs.ReadShort.{cut_document_short}
use Rattle.bep_document.proofs.laws.readings_are_faultless.Goals as goal

pub returns : goal.returns
returns c = record { documents = reading_faultless; rows = reading_in_range; cuts = cut_faultless; cut_documents = cut_document_faultless; short = cut_document_short }
