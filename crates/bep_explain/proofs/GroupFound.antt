-- What is found of a name in the table of a cut are the name's entries.
use Rattle.std.proofs.Common.{◌≡◌, ◌≢◌, ◌↔◌, ◌+◌, zero, suc, false, List, [], ◌∷◌, Contains, map, get_or, refl, sym, ap, subst, ◌∙◌, arith}
use Rattle.std.specs.declared.cmp.Ordering.{Ordering}
use Rattle.std.specs.declared.cmp.Ordering.TheVariants.{Less, Equal, Greater}
use Rattle.std.specs.Ordering.{is_lt, ordering_reverse}
use Rattle.std.specs.List.Sorted.{IsSortedByKey}
use Rattle.bep_facts.specs.Members.{Contains-first, Contains-image, Contains-from_image}
use Rattle.bep_facts.specs.Orders.{texts_total}
use Rattle.bep_model.specs.Settled.{key_cmp}
use Rattle.bep_tables.specs.declared.cut.CutParts.{CutParts}
use Rattle.bep_tables.specs.declared.table.entry.TableEntry.{TableEntry}
use Rattle.bep_tables.specs.Listed.{key_at, listed, AreInOrder, IsGrouped, cut_listed}
use Rattle.bep_audit.specs.Group.{IsGroupOf}
use Rattle.bep_audit.specs.Grouped.{same_group_same}
use Rattle.bep_explain.proofs.AboutFacts.{Key}

abbrev pub entry_key : TableEntry → Key
entry_key entry = key_at (listed entry)

not_below : (o p : Ordering) → p ≡ ordering_reverse o → o ≢ Greater → is_lt p ≡ false
not_below Less p e not = ap is_lt e
not_below Equal p e not = ap is_lt e
not_below Greater p e not = absurd (not refl)

sorted_step : (one next : TableEntry) (more : List TableEntry) → is_lt (key_cmp (entry_key next) (entry_key one)) ≡ false → IsSortedByKey entry_key key_cmp (next ∷ more) → IsSortedByKey entry_key key_cmp (one ∷ next ∷ more)
sorted_step one next more below rest zero d low within = below
sorted_step one next more below rest (suc k) d low within =
    let later : suc (k + 1) ≡ suc k + 1 = omega arith in
    subst (λ n. is_lt (key_cmp (entry_key (get_or (one ∷ next ∷ more) n d)) (entry_key (get_or (next ∷ more) k d))) ≡ false) later (rest k d (omega arith) (omega (arith, within)))

-- a table's entries are sorted
pub table_is_sorted : (table : List TableEntry) → AreInOrder (map listed table) → IsSortedByKey entry_key key_cmp table
table_is_sorted [] order = λ k d low within. absurd (omega (arith, within))
table_is_sorted (one ∷ []) order = λ k d low within. absurd (omega (arith, within))
table_is_sorted (one ∷ next ∷ more) order =
    sorted_step one next more
    (not_below (key_cmp (entry_key one) (entry_key next)) (key_cmp (entry_key next) (entry_key one)) (texts_total.antisymm (entry_key next) (entry_key one)) (order.0 (listed next) (Contains-first (listed next) (map listed more))))
    (table_is_sorted (next ∷ more) order.1)

pub group_found : (cut : CutParts) (table : List TableEntry) → IsGrouped (cut_listed cut) table → (key : Key) (found : List TableEntry) → ((entry : TableEntry) → Contains found entry ↔ (Contains table entry × (entry_key entry ≡ key))) → IsGroupOf cut key (map listed found)
group_found cut table grouped key found exactly one = (
  λ member.
      let image = Contains-from_image listed found one member in
      let both = (exactly image.0).0 image.1 in
      let here : key_at one ≡ key = ap key_at (sym image.2) ∙ both.1 in
      let in_table : Contains (map listed table) one = subst (Contains (map listed table)) image.2 (Contains-image listed table image.0 both.0) in
      (same_group_same one (map listed table) (cut_listed cut) (grouped.groups (key_at one)) in_table, here),
  λ both.
      let in_table = same_group_same one (cut_listed cut) (map listed table) (sym (grouped.groups (key_at one))) both.0 in
      let image = Contains-from_image listed table one in_table in
      subst (Contains (map listed found)) image.2 (Contains-image listed found image.0 ((exactly image.0).1 (image.1, ap key_at image.2 ∙ both.1))),
)
