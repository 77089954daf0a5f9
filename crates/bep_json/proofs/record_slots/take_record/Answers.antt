use Rattle.std.proofs.Common.{◌≡◌, ◌∙◌, Err, ap, subst, rules}
use Rattle.bep_tree.proofs.Walking.{reaches_so}
use Rattle.bep_json.specs.Taking.{misread_of, with_told}
use Rattle.bep_json.specs.inner.Filled.{AreFilled}
use Rattle.bep_json.specs.inner.Records.{record_names, record_slots}
use Rattle.bep_json.proofs.RecordTold.{no_record, record_is}
use Rattle.bep_json.proofs.record_slots.take_record.Goals as goal

pub returns-in_err-fill_object-clause-value : goal.returns-in_err-fill_object-clause-value
returns-in_err-fill_object-clause-value c = λ d rest stood.
    let fails = c.in_err-fill_object.ensures.value d rest (c.none-slots.ensures c.args.version) stood in
    let is : c.from_residual.result ≡ Err c.in_err-fill_object.field-0.0 = search rules in
    rw is fails

pub returns-then-not-branch-clause-value : goal.returns-then-not-branch-clause-value
returns-then-not-branch-clause-value c = λ d rest stood.
    let filled = c.in_ok-fill_object.ensures.value d rest (c.none-slots.ensures c.args.version) stood in
    let none = no_record c.args.version d (subst (λ f. AreFilled record_names (record_slots c.args.version) f c.fill_object.new.slots d) c.if-not-branch.true filled.0) in
    (ap misread_of none, ap (with_told c.args.records.now.items) none, filled.1)

pub returns-clause-value : goal.returns-clause-value
returns-clause-value c = λ d rest stood.
    let filled = c.in_ok-fill_object.ensures.value d rest (c.none-slots.ensures c.args.version) stood in
    let is = record_is c.args.version _ d (subst (λ f. AreFilled record_names (record_slots c.args.version) f c.fill_object.new.slots d) c.if-not-branch.false filled.0) in
    reaches_so _ _ c.put_record.result (λ misread so. (so.0 ∙ ap misread_of is, so.1 ∙ ap (with_told c.args.records.now.items) is, filled.1)) c.put_record.ensures
