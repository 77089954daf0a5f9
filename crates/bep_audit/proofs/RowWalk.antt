-- A walk over rows that rise, for the first place at which a reason fails at a row.
use Rattle.std.proofs.Common.{◌≡◌, ◌<◌, ℕ, List, [], ◌∷◌, Option, sym, ap, ◌∙◌}
use Rattle.std.specs.declared.cmp.Ordering.{Ordering}
use Rattle.std.specs.declared.cmp.Ordering.TheVariants.{Less, Equal, Greater}
use Rattle.std.specs.Ordering.{nat_cmp, ordering_then, ordering_reverse}
use Rattle.std.specs.Cmp.Lexicographic.{slice_cmp, nat_list_cmp_total}
use Rattle.std.proofs.lemmas.Cmp.{ranked, tied_itself}
use Rattle.bep_facts.specs.Orders.{texts_total}
use Rattle.bep_model.specs.declared.row.Row.{Row}
use Rattle.bep_model.specs.declared.reason.Reason.{Reason}
use Rattle.bep_model.specs.Tables.{Tables, Folder, FileName}
use Rattle.bep_model.specs.Settled.{Rise, key_of, key_cmp}
use Rattle.bep_model.specs.Reasons.{Place, place_cmp, device_rank, Asks}
use Rattle.bep_audit.specs.inner.Search.{FindsFirst, FindsFailing}
use Rattle.bep_audit.proofs.SearchFacts.{AllSay, finds_as}
use Rattle.bep_audit.proofs.WalkFacts.{IsBefore, AreInOrder, in_order_by_key}
use Rattle.bep_audit.proofs.RowsFacts.{rows_sorted}
use Rattle.bep_audit.proofs.AskedAtRow.{IsOfRows, key_at, asked_if_here, here_if_unmet, asked_of_each, asked_of_one}

-- what comes before another place has no greater key
not_above : (by_folder by_name by_device : Ordering) → ordering_then by_folder (ordering_then by_name by_device) ≡ Less → ¬ (ordering_then by_folder by_name ≡ Greater)
not_above Less by_name by_device less greater = absurd (cc)
not_above Equal Less by_device less greater = absurd (cc)
not_above Equal Equal by_device less greater = absurd (cc)
not_above Equal Greater by_device less greater = absurd (cc)
not_above Greater by_name by_device less greater = absurd (cc)

pub key_not_above : (earlier later : Place) → place_cmp earlier later ≡ Less → ¬ (key_cmp (key_at earlier) (key_at later) ≡ Greater)
key_not_above earlier later less =
    not_above (slice_cmp nat_cmp earlier.folder later.folder) (slice_cmp nat_cmp earlier.name later.name) (nat_cmp (device_rank earlier.device) (device_rank later.device)) less

third_decides : (by_folder by_name by_device : Ordering) → by_folder ≡ Equal → by_name ≡ Equal → ordering_then by_folder (ordering_then by_name by_device) ≡ Less → by_device ≡ Less
third_decides Less by_name by_device one two less = absurd (cc)
third_decides Equal Less by_device one two less = absurd (cc)
third_decides Equal Equal by_device one two less = less
third_decides Equal Greater by_device one two less = absurd (cc)
third_decides Greater by_name by_device one two less = absurd (cc)

same_text : (one other : List ℕ) → one ≡ other → slice_cmp nat_cmp one other ≡ Equal
same_text one other same = ap (slice_cmp nat_cmp one) (sym same) ∙ tied_itself nat_list_cmp_total one

-- of one name what comes first has the lesser device
pub device_before : (earlier later : Place) → key_at earlier ≡ key_at later → place_cmp earlier later ≡ Less → device_rank earlier.device < device_rank later.device
device_before earlier later same less =
    ranked (device_rank earlier.device) (device_rank later.device) Less
    (sym (third_decides (slice_cmp nat_cmp earlier.folder later.folder) (slice_cmp nat_cmp earlier.name later.name) (nat_cmp (device_rank earlier.device) (device_rank later.device))
    (same_text earlier.folder later.folder (ap (λ key. key.0) same)) (same_text earlier.name later.name (ap (λ key. key.1) same)) less))

-- what the reason asks of a row
abbrev pub AsksRow : Tables → Reason → Row → Place → Type 0
AsksRow t reason row place = Asks t (row ∷ []) reason place

module _ (t : Tables) (reason : Reason) (of_rows : IsOfRows reason) where
  row_is_before : (one other : Row) → key_cmp (key_of one) (key_of other) ≡ Less → IsBefore place_cmp (AsksRow t reason) one other
  row_is_before one other less first x unmet before =
      asked_if_here t reason other x of_rows (λ here.
      let there = here_if_unmet t reason one first of_rows unmet in
      let below : key_cmp (key_at first) (key_at x) ≡ Less = ap (λ (key : Folder × FileName). key_cmp key (key_at x)) (sym there) ∙ ap (key_cmp (key_of one)) (sym here) ∙ less in
      let above : key_cmp (key_at x) (key_at first) ≡ Greater = texts_total.antisymm (key_at x) (key_at first) ∙ ap ordering_reverse below in
      absurd (key_not_above x first before above))

  pub rows_in_order : (rows : List Row) → Rise rows → AreInOrder place_cmp (AsksRow t reason) rows
  rows_in_order rows rise = in_order_by_key place_cmp (AsksRow t reason) key_cmp key_of row_is_before rows (rows_sorted rows rise)

  pub found_in_rows : (rows : List Row) (found : Option Place) → FindsFirst place_cmp (AllSay place_cmp (AsksRow t reason) rows) found → FindsFailing t rows reason found
  found_in_rows rows =
      finds_as place_cmp (AllSay place_cmp (AsksRow t reason) rows) (Asks t rows reason)
      (λ place each. asked_of_each t rows reason place of_rows each)
      (λ place asked row member. asked_of_one t rows reason place of_rows asked row member)
