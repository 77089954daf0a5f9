-- What is so of all that was walked through: a list, what is left of one, and the records of an index by rising sequence.
use Rattle.std.proofs.Common.{◌≡◌, ◌⊎◌, ◌∙◌, ◌+◌, ◌<◌, ◌≤◌, ◌↔◌, ℕ, true, false, IsTrue, zero, suc, List, [], ◌∷◌, length, get_or, take, drop, slice_get, Option, Some, Contains, refl, sym, ap, subst, inl, inr, ⊎_elim, arith}
use Rattle.std.proofs.lemmas.Bool.{cases_lt}
use Rattle.std.proofs.lemmas.List.{take_all}
use Rattle.std.proofs.lemmas.List.Elements.{Contains-append_right, Contains-push_cases}
use Rattle.std.specs.FinMap.{get}
use Rattle.std.specs.List.{AllByRecursion}
use Rattle.bep_facts.specs.Members.{not_in_none, holds_of_member, Contains-first, Contains-more}
use Rattle.bep_facts.specs.Places.{done_with, split_at}
use Rattle.bep_map.specs.NameMap.{ByName}
use Rattle.bep_record.specs.declared.entry.Entry.{Entry}
use Rattle.bep_index.specs.After.{IsAfter}
use Rattle.bep_index.specs.Index.{IsIndex}
use Rattle.bep_index.specs.Listing.{Listing}
use Rattle.bep_index.specs.Order.{in_order}
use Rattle.bep_folder.specs.Names.{one_of}
use Rattle.bep_model.specs.Tables.{FileName}

-- ---- a list, place by place

pub member_at_place : {X : Type 0} (xs : List X) (place : ℕ) (x : X) → place < length xs → x ≡ get_or xs place x → Contains xs x
member_at_place xs place x below is =
    subst (λ (ys : List _). Contains ys x) (split_at xs place x below is) (Contains-append_right (take place xs) (x ∷ drop (place + 1) xs) x (Contains-first x (drop (place + 1) xs)))

module _ {X : Type 0} (P : X → Type 0) (xs : List X) where
  -- it is so of all before the place
  abbrev pub SoBefore : ℕ → Type 0
  SoBefore place = (x : X) → Contains (take place xs) x → P x

  pub so_of_none : SoBefore 0
  so_of_none x member = absurd (not_in_none x member)

  pub so_of_next : (place : ℕ) (x : X) → place < length xs → x ≡ get_or xs place x → P x → SoBefore place → SoBefore (place + 1)
  so_of_next place x below is here so y member =
      ⊎_elim
      (λ before. so y before)
      (λ same. subst P same here)
      (Contains-push_cases (take place xs) x y (subst (λ (ys : List X). Contains ys y) (done_with xs place x below is) member))

  pub so_of_each : (place : ℕ) → length xs ≤ place → SoBefore place → (x : X) → Contains xs x → P x
  so_of_each place all so x member = so x (subst (λ (ys : List X). Contains ys x) (sym (take_all place xs all)) member)

  -- what a walk tells that ends at one of which it isn't so, and one to the end
  pub not_all_are : (x : X) → Contains xs x → ¬ P x → IsTrue false ↔ ((y : X) → Contains xs y → P y)
  not_all_are x member fails = (λ told. absurd (let never : false ≡ true = told in cc), λ all. absurd (fails (all x member)))

  pub all_are : ((x : X) → Contains xs x → P x) → IsTrue true ↔ ((y : X) → Contains xs y → P y)
  all_are all = (λ told. all, λ same. refl)

-- ---- what is left of a list

-- what is left is of the list, and if it is so of that, it is so of all
pub record IsLeft {X : Type 0} (P : X → Type 0) (xs rest : List X) : Type 0 where
  pub among : (x : X) → Contains rest x → Contains xs x
  pub enough : AllByRecursion P rest → (x : X) → Contains xs x → P x

module _ {X : Type 0} (P : X → Type 0) (xs : List X) where
  pub all_left : (rest : List X) → rest ≡ xs → IsLeft P xs rest
  all_left rest is = record {
    among = λ x member. subst (λ (ys : List X). Contains ys x) is member;
    enough = λ so x member. holds_of_member P xs x (subst (AllByRecursion P) is so) member;
  }

  pub next_is_among : (rest more : List X) (x : X) → rest ≡ x ∷ more → IsLeft P xs rest → Contains xs x
  next_is_among rest more x is left = left.among x (subst (λ (ys : List X). Contains ys x) (sym is) (Contains-first x more))

  pub fewer_left : (rest more : List X) (x : X) → rest ≡ x ∷ more → P x → IsLeft P xs rest → IsLeft P xs more
  fewer_left rest more x is here left = record {
    among = λ y member. left.among y (subst (λ (ys : List X). Contains ys y) (sym is) (Contains-more x more y member));
    enough = λ so. left.enough (subst (AllByRecursion P) (sym is) (here, so));
  }

  pub none_left : (rest : List X) → rest ≡ [] → IsLeft P xs rest → (x : X) → Contains xs x → P x
  none_left rest is left = left.enough (subst (AllByRecursion P) (sym is) tt)

-- ---- records by rising sequence

first_of : (entries : List Entry) (place : ℕ) → take 1 (drop place entries) ≡ one_of (slice_get entries place)
first_of [] zero = refl
first_of [] (suc place) = refl
first_of (entry ∷ more) zero = refl
first_of (entry ∷ more) (suc place) = first_of more place

-- the next record after a sequence stands at its place
pub after_at : (records : ByName Entry) (sequence place : ℕ) (found : Option Entry) → found ≡ slice_get (in_order records) place → IsAfter records sequence 1 (take 1 (drop place (in_order records))) → IsAfter records sequence 1 (one_of found)
after_at records sequence place found is after =
    subst (λ (some : List Entry). IsAfter records sequence 1 some) (first_of (in_order records) place ∙ ap one_of (sym is)) after

-- it is so of the names of all records up to this sequence
abbrev pub SoUpTo : (FileName → Type 0) → Listing → ℕ → Type 0
SoUpTo P index sequence = (name : FileName) (entry : Entry) → get index.records name ≡ Some entry → entry.sequence ≤ sequence → P name

module _ (P : FileName → Type 0) (index : Listing) (an_index : IsIndex index) where
  pub so_up_to_none : SoUpTo P index 0
  so_up_to_none name entry is few = absurd (let numbered = (an_index.numbered name entry is).1 in omega (arith, few, numbered))

  pub so_up_to_next : (sequence : ℕ) (next : Entry) → IsAfter index.records sequence 1 (next ∷ []) → P next.name → SoUpTo P index sequence → SoUpTo P index next.sequence
  so_up_to_next sequence next found here so name entry is few = by_order (cases_lt sequence entry.sequence)
    where
      by_order : (sequence < entry.sequence) ⊎ (entry.sequence ≤ sequence) → P name
      by_order (inr before) = so name entry is before
      by_order (inl above) =
          let named = (an_index.numbered name entry is).0 in
          let its = ap (λ (n : FileName). get index.records n) named ∙ is in
          ⊎_elim
          (λ same. subst P (ap (λ (e : Entry). e.name) (sym same) ∙ named) here)
          (λ none. absurd none)
          (found.run.whole entry its above few)

  pub so_up_to_last : (sequence : ℕ) → IsAfter index.records sequence 1 [] → SoUpTo P index sequence → (name : FileName) (entry : Entry) → get index.records name ≡ Some entry → P name
  so_up_to_last sequence none so name entry is =
      let named = (an_index.numbered name entry is).0 in
      let its = ap (λ (n : FileName). get index.records n) named ∙ is in
      so name entry is (none.ended (omega arith) entry its)
