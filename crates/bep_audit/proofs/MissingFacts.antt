-- A search for the first name without a row: over the entries of a map, in order, and over several things that have names.
use Rattle.std.proofs.Common.{◌≡◌, ◌⊎◌, ℕ, ◌+◌, ◌<◌, ◌≤◌, false, List, [], ◌∷◌, ◌++◌, Option, Some, None, IsTrue, is_some, length, get_or, take, refl, sym, ap, subst, ◌∙◌, inl, inr, ⊎_elim}
use Rattle.std.proofs.Math.Dec.{T}
use Rattle.std.specs.declared.cmp.Ordering.TheVariants.{Less}
use Rattle.std.specs.Ordering.{ordering_reverse}
use Rattle.std.specs.Cmp.Lexicographic.{nat_list_cmp_total}
use Rattle.std.specs.FinMap.{is_sorted, get, contains_key, entries, entries_sorted}
use Rattle.std.proofs.lemmas.Cmp.{tied_itself}
use Rattle.std.proofs.lemmas.List.{take_all}
use Rattle.std.proofs.lemmas.List.Elements.{Contains-push, Contains-push_cases, Contains-append_left}
use Rattle.bep_facts.specs.Members.{not_in_none}
use Rattle.bep_record.specs.declared.entry.Entry.{Entry}
use Rattle.bep_map.specs.NameMap.{ByName}
use Rattle.bep_model.specs.declared.row.Row.{Row}
use Rattle.bep_model.specs.Tables.{Folder, FileName}
use Rattle.bep_model.specs.Settled.{HasRow}
use Rattle.bep_model.specs.declared.flight.Flight.{Flight}
use Rattle.bep_audit.specs.inner.Known.{HasValid, IsValidOf, HasValidOf, Brings}
use Rattle.bep_audit.specs.inner.Missing.{FindsMissing, OneHas}
use Rattle.bep_audit.specs.inner.Search.{FindsFirst, lesser}
use Rattle.bep_facts.specs.Entries.{both_hold}
use Rattle.bep_audit.proofs.MapFacts.{by_name, there_is, later_is_above, entry_stands}
use Rattle.bep_audit.proofs.SearchFacts.{AllSay, finds_as, goes_on, fails_here, ends, lesser_finds}
use Rattle.bep_facts.specs.Places.{done_with}

-- no name is below itself
not_less_itself : (name : FileName) → by_name name name ≡ Less → ⊥
not_less_itself name less = let tied = tied_itself nat_list_cmp_total name in cc

-- ---- over the entries of a map, each of which says what is to hold

module _ {V : Type 0} (Says : FileName × V → Type 0) where
  -- what an entry says, at its name
  abbrev pub SaysAt : FileName × V → FileName → Type 0
  SaysAt e name = e.0 ≡ name → Says e

  -- what the map's entry says that has the name, if one has
  abbrev pub SaysOf : ByName V → FileName → Type 0
  SaysOf held name = (v : V) → get held name ≡ Some v → Says (name, v)

  -- what is found among the entries that are left is found in the map
  pub record IsLeft (held : ByName V) (rest : List (FileName × V)) : Type 0 where
    pub sorted : T (is_sorted by_name rest)
    pub finds : (found : Option FileName) → FindsFirst by_name (AllSay by_name SaysAt rest) found → FindsFirst by_name (SaysOf held) found

  pub all_are_left : (held : ByName V) (all : List (FileName × V)) → all ≡ entries held → IsLeft held all
  all_are_left held all is = subst (IsLeft held) (sym is) (record {
    sorted = entries_sorted held;
    finds = finds_as by_name (AllSay by_name SaysAt (entries held)) (SaysOf held)
        (λ name say v found. say (name, v) ((entry_stands held name v).0 found) refl)
        (λ name says e stands same. says_here e name same (says e.1 (subst (λ (n : FileName). get held n ≡ Some e.1) same ((entry_stands held e.0 e.1).1 stands))));
  })
    where
      says_here : (e : FileName × V) (name : FileName) → e.0 ≡ name → Says (name, e.1) → Says e
      says_here e name same says = subst (λ (n : FileName). Says (n, e.1)) (sym same) says

  next_left : (held : ByName V) (e : FileName × V) (rest : List (FileName × V)) → IsLeft held (e ∷ rest) → Says e → IsLeft held rest
  next_left held e rest left says = record {
    sorted = (both_hold _ _ left.sorted).1;
    finds = λ found finds. left.finds found (goes_on by_name SaysAt e rest (λ name same. says) found finds);
  }

  pub next_is_left : (held : ByName V) (left rest : List (FileName × V)) (e : FileName × V) → left ≡ e ∷ rest → IsLeft held left → Says e → IsLeft held rest
  next_is_left held left rest e is all says = next_left held e rest (subst (IsLeft held) is all) says

  first_found : (held : ByName V) (e : FileName × V) (rest : List (FileName × V)) → IsLeft held (e ∷ rest) → ¬ Says e → FindsFirst by_name (SaysOf held) (Some e.0)
  first_found held e rest left unsaid =
      left.finds (Some e.0)
      (fails_here by_name SaysAt e rest e.0
      (record { fails = λ says. unsaid (says refl); before = λ name less same. absurd (not_below name less same) })
      (λ name less later member same.
      let above = later_is_above e.0 rest later (both_hold _ _ left.sorted).0 member in
      let more : by_name e.0 name ≡ Less = ap (by_name e.0) (sym same) ∙ above in
      absurd (twice name less more)))
    where
      not_below : (name : FileName) → by_name name e.0 ≡ Less → e.0 ≡ name → ⊥
      not_below name less same = not_less_itself name (ap (by_name name) (sym same) ∙ less)

      twice : (name : FileName) → by_name name e.0 ≡ Less → by_name e.0 name ≡ Less → ⊥
      twice name less more = let back = nat_list_cmp_total.antisymm name e.0 ∙ ap ordering_reverse more in cc

  pub first_is_found : (held : ByName V) (left rest : List (FileName × V)) (e : FileName × V) → left ≡ e ∷ rest → IsLeft held left → ¬ Says e → FindsFirst by_name (SaysOf held) (Some e.0)
  first_is_found held left rest e is all unsaid = first_found held e rest (subst (IsLeft held) is all) unsaid

  pub none_is_found : (held : ByName V) (left : List (FileName × V)) → left ≡ [] → IsLeft held left → FindsFirst by_name (SaysOf held) None
  none_is_found held left is all = (subst (IsLeft held) is all).finds None (ends by_name SaysAt)

module _ (rows : List Row) (folder : Folder) where
  -- ---- what an entry says: its name has a row, or has one if its record isn't invalid

  abbrev pub SaysRow : {V : Type 0} → FileName × V → Type 0
  SaysRow e = HasRow rows folder e.0

  abbrev pub SaysRowIfValid : FileName × Entry → Type 0
  SaysRowIfValid e = e.1.invalid ≡ false → HasRow rows folder e.0

  pub found_among_names : {V : Type 0} (held : ByName V) (found : Option FileName) → FindsFirst by_name (SaysOf SaysRow held) found → FindsMissing rows folder (λ name. IsTrue (contains_key held name)) found
  found_among_names {V} held =
      finds_as by_name (SaysOf SaysRow held) (λ name. IsTrue (contains_key held name) → HasRow rows folder name)
      (λ name says has. let v = there_is (get held name) has in says v.0 v.1)
      (λ name has_row v is. has_row (ap is_some is))

  pub found_among_valid : (held : ByName Entry) (found : Option FileName) → FindsFirst by_name (SaysOf SaysRowIfValid held) found → FindsMissing rows folder (HasValid held) found
  found_among_valid held =
      finds_as by_name (SaysOf SaysRowIfValid held) (λ name. HasValid held name → HasRow rows folder name)
      (λ name says has. says has.0 has.1 has.2)
      (λ name has_row entry is valid. has_row (entry, is, valid))

  -- ---- in a message, and of a record

  -- a message of the folder brings what is among its records
  pub brought_if_of_folder : (flight : Flight) → flight.folder ≡ folder → (found : Option FileName) → FindsMissing rows folder (λ name. HasValidOf name flight.records) found → FindsMissing rows folder (λ name. Brings folder name flight) found
  brought_if_of_folder flight same =
      finds_as by_name (λ name. HasValidOf name flight.records → HasRow rows folder name) (λ name. Brings folder name flight → HasRow rows folder name)
      (λ name has_row brings. has_row brings.1)
      (λ name has_row valid. has_row (same, valid))

  -- a valid record's name has no row, and no other name is its name
  pub only_name : (found entry : Entry) → entry ≡ found → ¬ (found.invalid ≡ false → HasRow rows folder entry.name) → FindsMissing rows folder (λ name. IsValidOf name found) (Some entry.name)
  only_name found entry same unmet = record {
    fails = λ has_row. unmet (λ valid. has_row (ap (λ (e : Entry). e.name) (sym same), valid));
    before = λ name less is. absurd (not_less_itself name (ap (by_name name) (sym is.0 ∙ ap (λ (e : Entry). e.name) (sym same)) ∙ less));
  }

  -- ---- over two things that have names

  pub least_of_two : (One Other : FileName → Type 0) (one other found : Option FileName) → FindsMissing rows folder One one → FindsMissing rows folder Other other → found ≡ lesser by_name one other → FindsMissing rows folder (λ name. One name ⊎ Other name) found
  least_of_two One Other one other found first second is =
      subst (FindsMissing rows folder (λ name. One name ⊎ Other name)) (sym is)
      (finds_as by_name
      (λ name. (One name → HasRow rows folder name) × (Other name → HasRow rows folder name))
      (λ name. One name ⊎ Other name → HasRow rows folder name)
      (λ name both has. ⊎_elim both.0 both.1 has)
      (λ name each. (λ here. each (inl here), λ there. each (inr there)))
      (lesser by_name one other)
      (lesser_finds by_name nat_list_cmp_total (λ name. One name → HasRow rows folder name) (λ name. Other name → HasRow rows folder name) one other first second))

  -- ---- over a list of things that have names

  module _ {Y : Type 0} (Names : Y → FileName → Type 0) where
    pub least_of_none : FindsMissing rows folder (OneHas Names []) None
    least_of_none name some = absurd (not_in_none some.0 some.1)

    one_more : (done : List Y) (y : Y) (found : Option FileName) → FindsMissing rows folder (λ name. OneHas Names done name ⊎ Names y name) found → FindsMissing rows folder (OneHas Names (done ++ y ∷ [])) found
    one_more done y =
        finds_as by_name (λ name. OneHas Names done name ⊎ Names y name → HasRow rows folder name) (λ name. OneHas Names (done ++ y ∷ []) name → HasRow rows folder name)
        (λ name has_row some.
        ⊎_elim
        (λ before. has_row (inl (some.0, before, some.2)))
        (λ same. has_row (inr (subst (λ (one : Y). Names one name) (sym same) some.2)))
        (Contains-push_cases done y some.0 some.1))
        (λ name has_row. ⊎_elim
        (λ some. has_row (some.0, Contains-append_left done (y ∷ []) some.0 some.1, some.2))
        (λ here. has_row (y, Contains-push done y, here)))

    pub least_goes_on : (ys : List Y) (place : ℕ) (y : Y) → place < length ys → y ≡ get_or ys place y → (so_far more found : Option FileName) → FindsMissing rows folder (OneHas Names (take place ys)) so_far → FindsMissing rows folder (Names y) more → found ≡ lesser by_name so_far more → FindsMissing rows folder (OneHas Names (take (place + 1) ys)) found
    least_goes_on ys place y below stands so_far more found first second is =
        subst (λ done. FindsMissing rows folder (OneHas Names done) found) (sym (done_with ys place y below stands))
        (one_more (take place ys) y found (least_of_two (OneHas Names (take place ys)) (Names y) so_far more found first second is))

    pub least_of_all : (ys : List Y) (place : ℕ) → length ys ≤ place → (found : Option FileName) → FindsMissing rows folder (OneHas Names (take place ys)) found → FindsMissing rows folder (OneHas Names ys) found
    least_of_all ys place past found least = subst (λ all. FindsMissing rows folder (OneHas Names all) found) (take_all place ys past) least
