-- A well-formed vector with one counter set; merges and bumps made of such changes.
use Rattle.std.proofs.Common.{◌≡◌, ℕ, ◌+◌, ◌≤◌, cond, eqb, ltb, max, List, [], ◌∷◌, length, set, insert, length-set, sym, ap, subst, ◌∙◌, ⊎_elim, arith}
use Rattle.std.proofs.lemmas.Bool.{cases_eq, eq-eqb, ne_eqb, cond-true, cond-false}
use Rattle.std.proofs.lemmas.List.Edits.{length-insert}
use Rattle.std.proofs.lemmas.List.Sums.{count_by-le-length}
use Rattle.bep_record.specs.Vector.{counter_of, greatest_counter, RisesAbove, IsVersion}
use Rattle.bep_record.specs.Laws.{IsMergedVersion, MergeExists, MergeIsUnique, MergeIsCounted, BumpExists, BumpIsUnique, BumpIsCounted}
use Rattle.bep_record.proofs.VectorFacts.{IsPut, counter_of-le, place_in, insert_is_put, set_is_put, ids_in_either-more, greater-more, same_from_counters}

-- u with this value at this id, and one counter more where the id had none
record HasSet (u : List (ℕ × ℕ)) (id value : ℕ) (new : List (ℕ × ℕ)) : Type 0 where
  put : IsPut 0 u new id value
  count : length new ≡ length u + cond (eqb (counter_of u id) 0) 1 0

set_counter : (u : List (ℕ × ℕ)) (id value : ℕ) → IsVersion u → 1 ≤ id → 1 ≤ value → value ≤ greatest_counter → (new : List (ℕ × ℕ)) × HasSet u id value new
set_counter u id value rises positive some fits =
    ⊎_elim
    (λ none. (
      insert u (place_in u id) (id, value),
      record {
        put = insert_is_put u 0 id value positive some fits rises none;
        count =
            let one : ◌≡◌ {A = ℕ} (cond (eqb (counter_of u id) 0) 1 0) 1 = cond-true _ _ _ (eq-eqb _ _ none) in
            omega (arith, one, length-insert u (place_in u id) (id, value) (count_by-le-length (λ (c : ℕ × ℕ). ltb c.0 id) u));
      },
    ))
    (λ there. (
      set u (place_in u id) (id, value),
      record {
        put = set_is_put u 0 id value some fits rises (omega arith);
        count = let none : ◌≡◌ {A = ℕ} (cond (eqb (counter_of u id) 0) 1 0) 0 = cond-false _ _ _ (ne_eqb _ _ there) in omega (arith, none, length-set u (place_in u id) (id, value));
      },
    ))
    (cases_eq (counter_of u id) 0)

-- each counter of v that is greater, taken over one after the other
merge_from : (u v : List (ℕ × ℕ)) (low : ℕ) → IsVersion u → RisesAbove low v → (w : List (ℕ × ℕ)) × IsMergedVersion u v w
merge_from u [] low ru rv = (u, record { version = ru; merge = λ id. omega arith; count = omega arith })
merge_from u (c ∷ more) low ru rv =
    let value = max (counter_of u c.0) c.1 in
    let own = counter_of-le u 0 c.0 ru in
    let above = rv.0 in
    let some = rv.1 in
    let fits = rv.2 in
    let made = set_counter u c.0 value ru (omega arith) (omega arith) (omega arith) in
    let rest = merge_from made.0 more c.0 made.1.put.rises rv.3 in (
      rest.0,
      record {
        version = rest.1.version;
        merge = λ id. rest.1.merge id ∙ greater-more u made.0 more c low rv made.1.put.changed id;
        count = rest.1.count ∙ ids_in_either-more u made.0 more c low value rv made.1.put.changed made.1.count;
      },
    )

pub merge_exists : MergeExists
merge_exists u v ru rv = merge_from u v 0 ru rv

pub merge_is_unique : MergeIsUnique
merge_is_unique u v one other r s m n = same_from_counters one other 0 r s (λ id. m id ∙ sym (n id))

pub merge_is_counted : MergeIsCounted
merge_is_counted u v w ru rv r m =
    let made = merge_from u v 0 ru rv in
    ap length (merge_is_unique u v w made.0 r made.1.version m made.1.merge) ∙ made.1.count

pub bump_exists : BumpExists
bump_exists old id rises positive below =
    let made = set_counter old id (counter_of old id + 1) rises positive (omega arith) (omega arith) in
    (made.0, record { version = made.1.put.rises; bump = made.1.put.changed; count = made.1.count })

pub bump_is_unique : BumpIsUnique
bump_is_unique old id one other r s b c =
    same_from_counters one other 0 r s (λ at.
    ⊎_elim
    (λ e. subst (λ k. counter_of one k ≡ counter_of other k) (sym e) (b.0 ∙ sym c.0))
    (λ ne. b.1 at ne ∙ sym (c.1 at ne))
    (cases_eq at id))

pub bump_is_counted : BumpIsCounted
bump_is_counted old id new rises positive r b =
    let most = counter_of-le new 0 id r in
    let raised = b.0 in
    let made = bump_exists old id rises positive (omega arith) in
    ap length (bump_is_unique old id new made.0 r made.1.version b made.1.bump) ∙ made.1.count
