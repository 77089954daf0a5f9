use Rattle.std.proofs.Common.{◌≡◌, ◌∙◌, ◌++◌, ◌+◌, ◌<◌, ◌∷◌, [], List, ap, sym, get_or, slice_get, take, drop, length, Some, arith}
use Rattle.std.proofs.lemmas.List.{take_more, get_or-drop, length-drop}
use Rattle.std.proofs.lemmas.Option.{slice_get_within, get_or_from_slice_get}
use Rattle.bep_record.specs.declared.entry.Entry.{Entry}
use Rattle.bep_index.specs.Order.{count_up_to}
use Rattle.bep_index.proofs.records.Records.after.Goals as goal

pub overflow_add-place : goal.overflow_add-place
overflow_add-place c =
    let within = slice_get_within c.args.self.now c.loop-taken.place c.in-Some.entry.now (sym c.in-Some.ensures.value) in
    let small = c.place_above-place.ensures.small in
    omega arith

-- one more of what is behind the place
one_more : (es : List Entry) (place taken at : _) (e : Entry) → at ≡ place + taken → at < length es → slice_get es at ≡ Some e → take (taken + 1) (drop place es) ≡ take taken (drop place es) ++ e ∷ []
one_more es place taken at e same within is =
    let many = length-drop place es in
    take_more (drop place es) taken e (omega arith)
    ∙ ap (λ x. take taken (drop place es) ++ x ∷ []) (get_or-drop place es taken e ∙ ap (λ n. get_or es n e) (sym same) ∙ get_or_from_slice_get es at e e is)

pub loop-taken-preserved : goal.loop-taken-preserved
loop-taken-preserved c =
    let is : slice_get c.args.self.now c.loop-taken.place ≡ Some c.in-Some.entry.now = sym c.in-Some.ensures.value in
    let below = slice_get_within c.args.self.now c.loop-taken.place c.in-Some.entry.now is in
    let found = c.loop-taken.invariant.found in
    let place = c.loop-taken.invariant.place in
    record {
      found = c.in_ok-push.ensures.items ∙ ap (λ x. c.loop-taken.found.items ++ x ∷ []) c.in_ok-copy.ensures ∙ ap (λ xs. xs ++ c.in-Some.entry.now ∷ []) found
          ∙ sym (one_more c.args.self.now (count_up_to c.args.sequence c.args.self.now) c.loop-taken._taken c.loop-taken.place c.in-Some.entry.now place below is);
      place = omega arith;
      within = omega arith;
    }
