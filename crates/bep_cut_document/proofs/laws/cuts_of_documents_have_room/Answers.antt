use Rattle.bep_cut_document.proofs.ShortWritten.{have_room}
use Rattle.bep_cut_document.proofs.laws.cuts_of_documents_have_room.Goals as goal

pub returns : goal.returns
returns c = have_room c.records_make_an_index.ensures.found c.readings_are_faultless.ensures.cut_documents c.readings_are_faultless.ensures.short
