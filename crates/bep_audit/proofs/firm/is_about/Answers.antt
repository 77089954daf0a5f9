use Rattle.bep_model.specs.Settled.{key_of}
use Rattle.bep_audit.proofs.LooseFacts.{same_exactly}
use Rattle.bep_audit.proofs.firm.is_about.Goals as goal

pub returns : goal.returns
returns c = same_exactly c.compare_row.result c.is_eq.result (key_of c.args.row.now) (c.args.folder.now, c.args.name.now) c.compare_row.ensures c.is_eq.ensures
