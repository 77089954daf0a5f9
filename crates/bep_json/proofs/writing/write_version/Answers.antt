use Rattle.std.proofs.Common.{ℕ, List, length, get_or, ap, subst, arith}
use Rattle.std.proofs.lemmas.List.{drop_all, drop_more}
use Rattle.bep_json.specs.Added.{Adds}
use Rattle.bep_json.specs.Written.{counter_written}
use Rattle.bep_json.proofs.AddedFacts.{last_item, list_added, next_item}
use Rattle.bep_json.proofs.writing.write_version.Goals as goal

pub loop-counter-preserved : goal.loop-counter-preserved
loop-counter-preserved c = λ end rest.
    let l = c.loop-counter in
    let same = c.counters-counter-items.ensures.value in
    let long = ap length same in
    let here = drop_more c.args.version.now l.counter-index (0, 0) (omega arith) in
    let one = subst (λ (cs : List (ℕ × ℕ)). Adds (counter_written (get_or cs l.counter-index (0, 0))) l.out c.write_counter.new.out) same c.in_ok-write_counter.ensures in
    l.invariant end (next_item counter_written here one rest)

pub returns : goal.returns
returns c =
    let long = ap length c.counters-counter-items.ensures.value in
    list_added c.in_ok-begin_array.ensures
    (c.loop-counter.invariant _ (last_item counter_written (drop_all c.loop-counter.counter-index c.args.version.now (omega arith)) c.in_ok-end_array.ensures))
