use Rattle.std.proofs.Common.{◌≡◌, ℕ, ◌≤◌, List, length, set, ap, sym, ◌∙◌, arith, length-set}
use Rattle.std.specs.List.{refill}
use Rattle.std.proofs.lemmas.Grind.{common_steps}
use Rattle.std.proofs.lemmas.List.{take_at}
use Rattle.bep_record.specs.Vector.{counter_of}
use Rattle.bep_record.proofs.VectorFacts.{place_in, place_in-lt, insert_is_put, set_is_put}
use Rattle.bep_record.proofs.vector.put.Goals as goal

-- a write through the slice of an equal list
refill-set : (xs ws : List (ℕ × ℕ)) (i j : ℕ) (y : ℕ × ℕ) → ws ≡ xs → i ≡ j → refill (length xs) xs (set ws i y) ≡ set xs j y
refill-set xs ws i j y e p =
    take_at (set ws i y) _ (length xs) (length-set ws i y ∙ ap length e)
    ∙ ap (λ v. set v i y) e
    ∙ ap (λ k. set xs k y) p

pub bounds-deref_mut-place : goal.bounds-deref_mut-place
bounds-deref_mut-place c =
    let xs = c.args.counters.now.items in
    let place : c.place_of-place.result ≡ place_in xs c.args.id = c.place_of-place.ensures ∙ ap (λ v. place_in v c.args.id) c.as_slice.ensures.value in
    let there : c.counter_at.result ≡ counter_of xs c.args.id = c.counter_at.ensures ∙ ap (λ v. counter_of v c.args.id) c.as_slice-2.ensures.value in
    let some : 1 ≤ counter_of xs c.args.id = omega (arith, there) in
    let len = ap length c.deref_mut.ensures.value in
    omega (arith, place_in-lt xs 0 c.args.id c.requires.version some, len, place)

pub returns-then-counter_at-eq0 : goal.returns-then-counter_at-eq0
returns-then-counter_at-eq0 c =
    let xs = c.args.counters.now.items in
    let place : c.place_of-place.result ≡ place_in xs c.args.id = c.place_of-place.ensures ∙ ap (λ v. place_in v c.args.id) c.as_slice.ensures.value in
    let there : c.counter_at.result ≡ counter_of xs c.args.id = c.counter_at.ensures ∙ ap (λ v. counter_of v c.args.id) c.as_slice-2.ensures.value in
    let put = insert_is_put xs 0 c.args.id c.args.value c.requires.id c.requires.value.0 c.requires.value.1 c.requires.version (sym there ∙ c.if-counter_at-eq0.true) in
    record {
      version = rw (c.insert.ensures.items, place) put.rises;
      put = rw (c.insert.ensures.items, place) put.changed;
      len = grind (arith, common_steps);
    }

pub returns-else-counter_at-eq0 : goal.returns-else-counter_at-eq0
returns-else-counter_at-eq0 c =
    let xs = c.args.counters.now.items in
    let place : c.place_of-place.result ≡ place_in xs c.args.id = c.place_of-place.ensures ∙ ap (λ v. place_in v c.args.id) c.as_slice.ensures.value in
    let there : c.counter_at.result ≡ counter_of xs c.args.id = c.counter_at.ensures ∙ ap (λ v. counter_of v c.args.id) c.as_slice-2.ensures.value in
    let some : 1 ≤ counter_of xs c.args.id = omega (arith, there) in
    let put = set_is_put xs 0 c.args.id c.args.value c.requires.value.0 c.requires.value.1 c.requires.version some in
    let written = refill-set xs c.deref_mut.result.now c.place_of-place.result (place_in xs c.args.id) (c.args.id, c.args.value) c.deref_mut.ensures.value place in
    record {
      version = rw written put.rises;
      put = rw written put.changed;
      len = ap length written ∙ length-set _ _ _ ∙ grind (arith, common_steps);
    }
