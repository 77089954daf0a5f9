-- What holds of all that a reader of numbers, lists or members reads.
use Rattle.std.proofs.Common.{◌≤◌, ℕ, leb, ◌&&◌, List, [], ◌∷◌, length, Option, Some, None, option_and_then, leb-true}
use Rattle.std.specs.List.{AllByRecursion}
use Rattle.serde_json.specs.Data.{Data, Items, no_items, item}
use Rattle.serde_json.specs.Find.{get, as_array, as_number, as_u64}
use Rattle.bep_json.specs.Reading.{read_member, read_or, read_member_or}
use Rattle.bep_json.specs.Lists.{read_items, read_list}
use Rattle.bep_json.specs.Numbers.{read_number}
use Rattle.bep_document.specs.read.Few.{read_few}
use Rattle.bep_document.proofs.BoolFacts.{both_true}
use Rattle.bep_document.proofs.Steps.{Gives, made, keep, skip, tested}

-- each thing that is read is such
abbrev pub Reads : {T : Type 0} → (T → Type 0) → (Data → Option T) → Type 0
Reads P reads = (d : Data) → Gives P (reads d)

pub number_read : (low high : ℕ) → Reads (λ n. n ≤ high) (read_number low high)
number_read low high d =
    skip (option_and_then as_u64 (as_number d)) (λ n. tested (λ m. m ≤ high) (leb low n && leb n high) n (λ within. leb-true n high (both_true (leb low n) (leb n high) within).1))

items_read : {T : Type 0} {P : T → Type 0} {reads : Data → Option T} → Reads P reads → (items : Items) → Gives (AllByRecursion P) (read_items reads items)
items_read {P = P} each no_items = made (AllByRecursion P) [] tt
items_read {P = P} each (item d more) =
    keep (each d) (λ x here. keep (items_read each more) (λ xs behind. made (AllByRecursion P) (x ∷ xs) (here, behind)))

pub list_read : {T : Type 0} {P : T → Type 0} {reads : Data → Option T} → Reads P reads → Reads (AllByRecursion P) (read_list reads)
list_read each d = skip (as_array d) (λ items. items_read each items)

pub few_read : {T : Type 0} {P : T → Type 0} {reads : Data → Option T} (most : ℕ) → Reads P reads → Reads (λ xs. (length xs ≤ most) × AllByRecursion P xs) (read_few most reads)
few_read {P = P} most each d = keep (list_read each d) (λ xs all. tested (λ ys. (length ys ≤ most) × AllByRecursion P ys) (leb (length xs) most) xs (λ few. (leb-true (length xs) most few, all)))

pub member_read : {T : Type 0} {P : T → Type 0} {reads : Data → Option T} → Reads P reads → (name : List ℕ) → Reads P (read_member name reads)
member_read each name d = skip (get name d) (λ value. each value)

pub member_or_read : {T : Type 0} {P : T → Type 0} {reads : Data → Option T} {default : T} → Reads P reads → P default → (name : List ℕ) → Reads P (read_member_or name reads default)
member_or_read {T} {P} {reads} {default} each holds name d = cases (get name d) where
  cases : (o : Option Data) → Gives P (read_or reads default o)
  cases None = made P default holds
  cases (Some value) = each value
