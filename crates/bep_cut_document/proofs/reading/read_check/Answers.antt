use Rattle.bep_cut_document.proofs.reading.read_check.Goals as goal

pub check_from-requires : goal.check_from-requires
check_from-requires c = c.readings_are_faultless.ensures.documents c.args.bytes.now c.in-Ok.parts c.in-Ok.ensures
