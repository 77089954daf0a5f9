use Rattle.std.proofs.Common.{◌≡◌, Option, Some, None, Err, refl, sym, ap, subst}
use Rattle.std.specs.Prelude.{⊤, IsSome}
use Rattle.std.proofs.lemmas.Result.{err_from_is_err_and}
use Rattle.std.specs.Option.{option_copied}
use Rattle.std.specs.FinMap as map
use Rattle.bep_model.specs.Tables.{FileName}
use Rattle.bep_folder.specs.inner.Calls.{CallsToWrite}
use Rattle.bep_folder.specs.inner.Ending.{CallsIn}
use Rattle.bep_folder.specs.Trace.{TracedStore}
use Rattle.bep_folder.proofs.CallFacts.{not_written, target_written}
use Rattle.bep_folder.proofs.StoredFacts.{kept-beside}
use Rattle.bep_folder.proofs.pull.writes.write_all.Goals as goal

pub write_target-requires-in-Some-clause-node : goal.write_target-requires-in-Some-clause-node
write_target-requires-in-Some-clause-node g c =
    let kept : IsSome (option_copied c.args.node) = c.requires.kept (subst (λ o. IsSome o) (sym c.in-Some.is) refl) in
    subst (λ s. map.get s.contents c.args.name.now ≡ option_copied c.args.node) (sym c.in_ok-write_copy-in-Some.ensures.ok)
    (kept-beside c.args.store.now.contents c.in-Some.copy.now c.args.name.now (option_copied c.args.node) kept c.requires.node)

pub returns-in-None-clause-called : goal.returns-in-None-clause-called
returns-in-None-clause-called g c =
    let writes = c.write_target.ensures.writes in
    let there = option_copied c.args.node in
    subst (λ (copy : Option FileName). CallsToWrite c.args.same there c.args.pull.now copy c.args.store.now c.write_target.new.store c.write_target.result) (sym (ap option_copied c.in-None.is))
    (target_written c.args.same there c.args.pull.now None c.args.store.now c.args.store.now c.write_target.new.store c.args.name.now c.write_target.result refl
    c.write_target.ensures.called writes.0 (CallsIn c.args.same there c.args.pull.now.target writes.0) writes.2 c.write_target.ensures.last)

pub returns-in_ok-write_copy-in-Some-clause-called : goal.returns-in_ok-write_copy-in-Some-clause-called
returns-in_ok-write_copy-in-Some-clause-called g c =
    let writes = c.write_target-in-Some.ensures.writes in
    let there = option_copied c.args.node in
    let copied = c.in_ok-write_copy-in-Some.ensures.ok in
    subst (λ (copy : Option FileName). CallsToWrite c.args.same there c.args.pull.now copy c.args.store.now c.write_target-in-Some.new.store c.write_target-in-Some.result) (sym (ap option_copied c.in-Some.is))
    (target_written c.args.same there c.args.pull.now (Some c.in-Some.copy.now) c.args.store.now c.write_copy.new.store c.write_target-in-Some.new.store c.args.name.now c.write_target-in-Some.result (ap (λ (s : TracedStore). s.made) copied)
    c.write_target-in-Some.ensures.called writes.0 (CallsIn c.args.same there c.args.pull.now.target writes.0) writes.2 c.write_target-in-Some.ensures.last)

pub returns-in_err-write_copy-in-Some-clause-called : goal.returns-in_err-write_copy-in-Some-clause-called
returns-in_err-write_copy-in-Some-clause-called g c =
    let error = err_from_is_err_and c.from_residual.result c.from_residual.ensures.1 in
    rw (error.1, error.2)
    (not_written c.args.same (option_copied c.args.node) c.args.pull.now (option_copied c.args.copy) c.args.store.now c.write_copy.new.store c.in-Some.copy.now (option_copied c.args.node) ⊤ c.args.store.now c.in_err-write_copy-in-Some.field-0.0
    (c.in_err-write_copy-in-Some.ensures.err refl) (λ is. c.in_err-write_copy-in-Some.ensures.last (ap Err is)))
