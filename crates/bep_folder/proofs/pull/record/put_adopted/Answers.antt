use Rattle.std.proofs.Common.{◌≡◌, ◌<◌, Err, sym, ap, subst, ◌∙◌}
use Rattle.std.specs.Option.{option_copied}
use Rattle.bep_record.specs.Vector.{most_counters, ids_in_either}
use Rattle.bep_index.specs.Index.{IsIndexFull}
use Rattle.bep_machine.specs.Replica.{version_of}
use Rattle.bep_folder.specs.FolderError.{of_index}
use Rattle.bep_folder.specs.inner.Ending.{LacksRoom}
use Rattle.bep_folder.proofs.AdoptFacts.{lacks_versions, lacks_index}
use Rattle.bep_folder.proofs.pull.record.put_adopted.Goals as goal

pub returns-in-Err-clause-refused : goal.returns-in-Err-clause-refused
returns-in-Err-clause-refused c =
    subst (λ own. LacksRoom c.args.name.now own c.args.target.now c.args.index.now c.in-Err.error) c.get.ensures.value
    (lacks_versions c.args.name.now (option_copied c.get.result) c.args.target.now c.args.index.now c.in-Err.error c.in-Err.ensures.only (λ e. c.in-Err.ensures.many.0 (ap Err e)))

pub returns-in-Err-put_undo-clause-refused : goal.returns-in-Err-put_undo-clause-refused
returns-in-Err-put_undo-clause-refused c =
    let few : ¬ (most_counters < ids_in_either (version_of (option_copied c.get.result)) c.args.target.now.version) = λ over. (let bad = c.in-Ok.ensures.many.1 over in absurd (cc)) in
    let named : c.in-Ok.entry.name ≡ c.args.name.now = ap (λ e. e.name) c.in-Ok.ensures.ok.same ∙ c.requires in
    let lacks : LacksRoom c.args.name.now (option_copied c.get.result) c.args.target.now c.args.index.now (of_index c.in-Err-put_undo.error) =
    lacks_index c.args.name.now (option_copied c.get.result) c.args.target.now c.args.index.now c.in-Err-put_undo.error few c.in-Err-put_undo.ensures.only
    (λ e. c.in-Err-put_undo.ensures.sequence_full.0 (ap Err e))
    (λ e. let full = c.in-Err-put_undo.ensures.index_full.0 (ap Err e) in (full.0, subst (λ n. IsIndexFull c.args.index.now n) named full.1)) in
    subst (λ own. LacksRoom c.args.name.now own c.args.target.now c.args.index.now c.index_error.result) c.get.ensures.value
    (subst (λ e. LacksRoom c.args.name.now (option_copied c.get.result) c.args.target.now c.args.index.now e) (sym c.index_error.ensures) lacks)
