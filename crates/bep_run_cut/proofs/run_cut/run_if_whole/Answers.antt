use Rattle.bep_run_cut.proofs.run_cut.run_if_whole.Goals as goal

pub run_of-requires : goal.run_of-requires
run_of-requires c = record { whole = c.in_ok-whole.ensures.0 c.if-whole.true; lead = c.requires }
