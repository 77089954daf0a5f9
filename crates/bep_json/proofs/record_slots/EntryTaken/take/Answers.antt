use Rattle.std.proofs.Common.{◌≡◌, ◌∙◌, ◌<◌, length, Err, true, false, ap, sym, subst, rules, arith}
use Rattle.std.proofs.lemmas.Grind.{common_steps}
use Rattle.bep_json.specs.Records.{is_record, read_record}
use Rattle.bep_json.specs.Taking.{judged, with_told}
use Rattle.bep_json.proofs.TakingFacts.{one_told, none_told}
use Rattle.bep_json.proofs.record_slots.EntryTaken.take.Goals as goal

pub returns-in_err-misread-clause-value : goal.returns-in_err-misread-clause-value
returns-in_err-misread-clause-value c = λ d rest stood.
    let fails = c.in_err-misread.ensures.value d rest stood in
    let is : c.from_residual-in_err-misread.result ≡ Err c.in_err-misread.field-0.0 = search rules in
    rw is fails

pub returns-in-Some-clause-value : goal.returns-in-Some-clause-value
returns-in-Some-clause-value c = λ d rest stood.
    let taken = c.in_ok-misread.ensures.value d rest stood in
    let told = judged (is_record c.args.version d) (read_record c.args.version d) in
    let put = taken.1 ∙ ap (λ before. with_told before told) c.in_ok-alone.ensures.items in
    (one_told told _ c.in-Some.record (sym put ∙ c.in-Some.ensures.items), taken.2)

pub returns-clause-value : goal.returns-clause-value
returns-clause-value c = λ d rest stood.
    let taken = c.in_ok-misread.ensures.value d rest stood in
    let told = judged (is_record c.args.version d) (read_record c.args.version d) in
    let put = taken.1 ∙ ap (λ before. with_told before told) c.in_ok-alone.ensures.items in
    let none = none_told told c.in_ok-misread.misread taken.0 (λ some. let wrong : false ≡ true = c.in-None.ensures.variant.1 (let shown : 0 < length c.take_record.new.records.items = subst (λ records. 0 < length records) (sym put) some in grind (arith, common_steps)) in cc) in
    (ap Err c.unwrap_or.ensures ∙ none, taken.2)
