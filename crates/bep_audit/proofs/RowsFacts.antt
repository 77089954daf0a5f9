-- A walk over rows, each compared with the one before it.
use Rattle.std.proofs.Common.{◌≡◌, ◌+◌, ◌-◌, ◌<◌, ◌≤◌, ◌∙◌, ℕ, false, Some, None, List, [], ◌∷◌, length, get_or, drop, refl, ap, sym, arith, length-drop, map}
use Rattle.std.specs.Ordering.{is_lt}
use Rattle.std.proofs.lemmas.Bool.{cond-false}
use Rattle.std.proofs.lemmas.List.{drop_more}
use Rattle.std.specs.List.Sorted.{IsStrictlySortedBy}
use Rattle.bep_facts.specs.Orders.{texts_total}
use Rattle.bep_facts.specs.Rising.{sorted_from_steps}
use Rattle.bep_model.specs.declared.row.Row.{Row}
use Rattle.bep_model.specs.Settled.{Rise, key_of, key_cmp}
use Rattle.bep_model.specs.Reasons.{first_disordered}

-- two rows that stand one after the other, and the rest
two_rows : (rows : List Row) (place : ℕ) (one next : Row) → 1 ≤ place → place < length rows → one ≡ get_or rows (place - 1) one → next ≡ get_or rows place next → drop (place - 1) rows ≡ one ∷ next ∷ drop (place + 1) rows
two_rows rows place one next positive below one_is next_is =
    let first = drop_more rows (place - 1) one (omega arith) in
    let back : place - 1 + 1 ≡ place = omega arith in
    let second = drop_more rows place next below in
    cc

-- a row that isn't above the one before it
pub stops : (rows : List Row) (place : ℕ) (one next : Row) → 1 ≤ place → place < length rows → one ≡ get_or rows (place - 1) one → next ≡ get_or rows place next → is_lt (key_cmp (key_of one) (key_of next)) ≡ false → first_disordered (drop (place - 1) rows) ≡ first_disordered rows → Some (key_of next) ≡ first_disordered rows
stops rows place one next positive below one_is next_is not_less so_far =
    let two = ap first_disordered (two_rows rows place one next positive below one_is next_is) in
    sym (cond-false _ _ _ not_less) ∙ sym two ∙ so_far

-- rows rise exactly where each is below all later ones
pub rows_sorted : (rows : List Row) → Rise rows → IsStrictlySortedBy key_cmp (map key_of rows)
rows_sorted = sorted_from_steps key_cmp key_of texts_total Rise (λ row next more step. step)

pub rise_from_sorted : (rows : List Row) → IsStrictlySortedBy key_cmp (map key_of rows) → Rise rows
unfolding IsStrictlySortedBy
rise_from_sorted [] sorted = tt
rise_from_sorted (row ∷ []) sorted = tt
rise_from_sorted (row ∷ next ∷ more) sorted = (sorted.0.0, rise_from_sorted (next ∷ more) sorted.1)

one_is_in_order : (rows : List Row) → length rows ≤ 1 → first_disordered rows ≡ None
one_is_in_order [] few = refl
one_is_in_order (row ∷ []) few = refl
one_is_in_order (row ∷ next ∷ more) few = absurd (omega arith)

-- the end
pub ends : (rows : List Row) (place : ℕ) → 1 ≤ place → length rows ≤ place → first_disordered (drop (place - 1) rows) ≡ first_disordered rows → None ≡ first_disordered rows
ends rows place positive all so_far =
    sym (one_is_in_order (drop (place - 1) rows) (omega (arith, length-drop (place - 1) rows))) ∙ so_far
