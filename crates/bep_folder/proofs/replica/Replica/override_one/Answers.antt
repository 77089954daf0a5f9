use Rattle.std.proofs.Common.{rules}
use Rattle.std.proofs.lemmas.Result.{err_from_is_err_and}
use Rattle.bep_folder.proofs.HeldFacts.{held_of}
use Rattle.bep_folder.proofs.OverrideFacts.{override_done, override_not_put, override_refused}
use Rattle.bep_folder.proofs.replica.Replica.override_one.Goals as goal

pub returns-in-Err-clause-overridden : goal.returns-in-Err-clause-overridden
returns-in-Err-clause-overridden g c =
    let new = held_of c.self.inside.device c.self.inside.folder c.self.inside.kind c.self.inside.others c.self.inside.index c.self.inside.views c.self.inside.pulls c.begin.new.self in
    override_refused c.args.self.now.device c.args.name.now c.args.self.now new c.in-Err.error c.in-Err.ensures.made (search rules)

pub returns-clause-overridden : goal.returns-clause-overridden
returns-clause-overridden g c =
    override_done c.args.self.now.device c.args.name.now c.args.self.now.tables c.in-Ok.ensures.made.0 _ c.in-Ok.entry c.in-Ok.ensures.made.1 c.in-Ok.ensures.named
    (search rules) (search rules) (search rules)

pub returns-in_err-put_record-clause-overridden : goal.returns-in_err-put_record-clause-overridden
returns-in_err-put_record-clause-overridden g c =
    let new = held_of c.self.inside.device c.self.inside.folder c.self.inside.kind c.self.inside.others c.put_record.new.index c.self.inside.views c.self.inside.pulls c.begin.new.self in
    let error = err_from_is_err_and c.from_residual.result c.from_residual.ensures.1 in
    rw (error.1, error.2)
    (override_not_put c.args.self.now.device c.args.name.now c.args.self.now new c.in-Ok.entry c.in_err-put_record.field-0.0 c.in-Ok.ensures.made.0 c.in-Ok.ensures.made.1 c.in-Ok.ensures.named (search rules)
    c.in_err-put_record.ensures.only (search rules) (search rules))
