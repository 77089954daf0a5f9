use Rattle.std.proofs.Common.{◌≡◌, ◌+◌, ◌∷◌, max, drop, get_or, ap, sym, ◌∙◌, arith}
use Rattle.std.proofs.lemmas.List.{drop_more}
use Rattle.bep_record.specs.Vector.{counter_of, ids_in_either, RisesAbove, ChangesOnly}
use Rattle.bep_record.proofs.VectorFacts.{RisesAbove-lower, counter_of-le, ids_in_either-more, greater-more}
use Rattle.bep_record.proofs.vector.put_greater.Goals as goal

pub put-requires-clause-value : goal.put-requires-clause-value
put-requires-clause-value c =
    let u = c.loop-id.counters.items in
    let x = get_or c.args.others.now c.loop-id.id-index (0, 0) in
    let rises : RisesAbove 0 (x ∷ drop (c.loop-id.id-index + 1) c.args.others.now) = rw (drop_more c.args.others.now c.loop-id.id-index (0, 0) c.loop-id-test.true) at c.loop-id.invariant.rest_version in
    let own : c.counter_at-own.result ≡ counter_of u x.0 = c.counter_at-own.ensures ∙ ap (λ v. counter_of v x.0) c.as_slice.ensures.value in
    let le = counter_of-le u 0 x.0 c.loop-id.invariant.version in
    let some = rises.1 in
    let fits = rises.2 in
    (omega arith, omega arith)

pub loop-id-preserved : goal.loop-id-preserved
loop-id-preserved c =
    let u = c.loop-id.counters.items in
    let new = c.put.new.counters.items in
    let x = get_or c.args.others.now c.loop-id.id-index (0, 0) in
    let rest = drop (c.loop-id.id-index + 1) c.args.others.now in
    let split = drop_more c.args.others.now c.loop-id.id-index (0, 0) c.loop-id-test.true in
    let rises : RisesAbove 0 (x ∷ rest) = rw split at c.loop-id.invariant.rest_version in
    let own : c.counter_at-own.result ≡ counter_of u x.0 = c.counter_at-own.ensures ∙ ap (λ v. counter_of v x.0) c.as_slice.ensures.value in
    let changed : ChangesOnly u new x.0 (max (counter_of u x.0) x.1) = (c.put.ensures.put.0 ∙ c.max.ensures ∙ ap (λ n. max n x.1) own, c.put.ensures.put.1) in
    record {
      version = c.put.ensures.version;
      rest_version = RisesAbove-lower rest 0 x.0 (omega arith) rises.3;
      counted = ids_in_either-more u new rest x 0 (max (counter_of u x.0) x.1) rises changed c.put.ensures.len ∙ ap (λ v. ids_in_either u v) (sym split) ∙ c.loop-id.invariant.counted;
      greater = λ id. greater-more u new rest x 0 rises changed id ∙ ap (λ v. max (counter_of u id) (counter_of v id)) (sym split) ∙ c.loop-id.invariant.greater id;
    }
