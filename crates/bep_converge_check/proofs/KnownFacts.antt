-- The walk for the top of a name's valid records, and their list.
use Rattle.std.proofs.Common.{◌≡◌, ◌⊎◌, ◌↔◌, ◌<◌, ◌≤◌, ◌+◌, ℕ, IsTrue, Bool, true, false, cond, List, [], ◌∷◌, ◌++◌, Contains, Option, Some, None, map, length, get_or, take, refl, sym, ap, subst, ◌∙◌, inl, inr, ⊎_elim, arith}
use Rattle.std.proofs.lemmas.Bool.{cond-false}
use Rattle.std.proofs.lemmas.List.{map_push, take_all}
use Rattle.std.proofs.lemmas.List.Elements.{Contains-push, Contains-push_cases, Contains-append_left}
use Rattle.std.specs.List.Sorted.{IsPermutation}
use Rattle.std.proofs.lemmas.List.Sorted.{Contains-permutation, IsPermutation-sym, IsPermutation-map}
use Rattle.bep_facts.specs.Members.{not_in_none, Contains-image}
use Rattle.bep_facts.specs.Places.{done_with}
use Rattle.bep_record.specs.declared.entry.Entry.{Entry}
use Rattle.bep_record.specs.Vector.{IsAtMost}
use Rattle.bep_tables.specs.declared.table.entry.TableEntry.{TableEntry}
use Rattle.bep_tables.specs.declared.table.entry.Source.TheVariants.{Own, View, Flight, Pull}
use Rattle.bep_tables.specs.Listed.{Holding, Record, Node, Listed, listed}
use Rattle.bep_converge_check.specs.declared.weight.Weighed.{Weighed}
use Rattle.bep_converge_check.specs.inner.Records.{valid_of, valid_held, own_held, IsIn, IsOwnIn, IsAbove, IsTopIn}
use Rattle.bep_converge_check.specs.inner.Known.{IsHighestOwn, IsHigher, IsBelowIfValid}
use Rattle.bep_converge_check.specs.inner.Weight.{record_of}

pub through : (u v w : List (ℕ × ℕ)) → IsAtMost u v → IsAtMost v w → IsAtMost u w
through u v w one two id = let a = one id in let b = two id in omega (arith, a, b)

-- ---- valid records

pub valid_is : (entry : Entry) → entry.invalid ≡ false → valid_of entry ≡ Some entry
valid_is entry valid = cond-false _ _ _ valid

pub from_valid : (entry other : Entry) → valid_of entry ≡ Some other → (entry ≡ other) × (entry.invalid ≡ false)
from_valid entry other is = cases entry.invalid refl is where
  cases : (b : Bool) → entry.invalid ≡ b → cond b None (Some entry) ≡ Some other → (entry ≡ other) × (entry.invalid ≡ false)
  cases true e there = absurd (cc)
  cases false e there = (cc, e)

-- an own record is a record
pub own_is_held : (holding : Holding) (entry : Entry) → own_held holding ≡ Some entry → valid_held holding ≡ Some entry
own_is_held (Record Own own) entry is = is
own_is_held (Record View found) entry is = absurd (cc)
own_is_held (Record Flight found) entry is = absurd (cc)
own_is_held (Record Pull found) entry is = absurd (cc)
own_is_held (Node node) entry is = absurd (cc)

pub own_is_in : (group : List Listed) (entry : Entry) → IsOwnIn group entry → IsIn group entry
own_is_in group entry own = (own.0, own.1, own_is_held own.0.holding entry own.2)

-- ---- one entry more

own_cases : (done : List Listed) (one : Listed) (entry : Entry) → IsOwnIn (done ++ one ∷ []) entry → IsOwnIn done entry ⊎ (own_held one.holding ≡ Some entry)
own_cases done one entry own =
    ⊎_elim
    (λ before. inl (own.0, before, own.2))
    (λ same. inr (ap (λ (l : Listed). own_held l.holding) same ∙ own.2))
    (Contains-push_cases done one own.0 own.1)

module _ (group done : List Listed) (one : Listed) (member : Contains group one) where
  -- where the entry has no own record
  as_before : (was : Option Entry) → IsHighestOwn group done was → own_held one.holding ≡ None → IsHighestOwn group (done ++ one ∷ []) was
  as_before None none lacks = λ entry own. ⊎_elim (λ old. none entry old) (λ new. let e : None ≡ Some entry = sym lacks ∙ new in absurd (cc)) (own_cases done one entry own)
  as_before (Some highest) is lacks =
      (is.0, λ entry own above. ⊎_elim (λ old. is.1 entry old above) (λ new. let e : None ≡ Some entry = sym lacks ∙ new in absurd (cc)) (own_cases done one entry own))

  -- where it has the first
  first_one : ((entry : Entry) → ¬ IsOwnIn done entry) → (second : Entry) → own_held one.holding ≡ Some second → IsHighestOwn group (done ++ one ∷ []) (Some second)
  first_one none second is = (
    (one, member, is),
    λ entry own above.
        ⊎_elim
        (λ old. absurd (none entry old))
        (λ new. let e : Some second ≡ Some entry = sym is ∙ new in let same : second ≡ entry = cc in subst (λ (x : Entry). IsAtMost x.version second.version) same (λ id. omega arith))
        (own_cases done one entry own),
  )

  -- where it has one that is above the highest so far
  new_one : (highest second : Entry) → IsHighestOwn group done (Some highest) → own_held one.holding ≡ Some second → IsAtMost highest.version second.version → IsHighestOwn group (done ++ one ∷ []) (Some second)
  new_one highest second was is within = (
    (one, member, is),
    λ entry own above.
        ⊎_elim
        (λ old. through entry.version highest.version second.version (was.1 entry old above) within)
        (λ new. let e : Some second ≡ Some entry = sym is ∙ new in let same : second ≡ entry = cc in subst (λ (x : Entry). IsAtMost x.version second.version) same (λ id. omega arith))
        (own_cases done one entry own),
  )

  -- where it has one that isn't
  old_one : (highest second : Entry) → IsHighestOwn group done (Some highest) → own_held one.holding ≡ Some second → ¬ IsAtMost highest.version second.version → IsHighestOwn group (done ++ one ∷ []) (Some highest)
  old_one highest second was is not = (
    was.0,
    λ entry own above.
        ⊎_elim
        (λ old. was.1 entry old above)
        (λ new.
        let e : Some second ≡ Some entry = sym is ∙ new in
        let same : second ≡ entry = cc in
        absurd (not (subst (λ (x : Entry). IsAtMost highest.version x.version) (sym same) (above highest (own_is_in group highest was.0)))))
        (own_cases done one entry own),
  )

  pub highest_more : (was found : Option Entry) → IsHighestOwn group done was → (second : Option Entry) → own_held one.holding ≡ second → IsHigher was second found → IsHighestOwn group (done ++ one ∷ []) found
  highest_more was found is None lacks higher = subst (IsHighestOwn group (done ++ one ∷ [])) (sym higher) (as_before was is lacks)
  highest_more None found is (Some second) has higher = subst (IsHighestOwn group (done ++ one ∷ [])) (sym higher) (first_one is second has)
  highest_more (Some highest) found is (Some second) has higher =
      ⊎_elim
      (λ within. subst (IsHighestOwn group (done ++ one ∷ [])) (sym within.1) (new_one highest second is has within.0))
      (λ not. subst (IsHighestOwn group (done ++ one ∷ [])) (sym not.1) (old_one highest second is has not.0))
      higher

-- ---- the walk by its places
module _ (group : List TableEntry) where
  -- what the entries before a place hold
  abbrev pub Done : ℕ → List Listed
  Done place = map listed (take place group)

  pub one_done : (place : ℕ) (entry : TableEntry) → place < length group → entry ≡ get_or group place entry → Done (place + 1) ≡ Done place ++ listed entry ∷ []
  one_done place entry below is = ap (map listed) (done_with group place entry below is) ∙ map_push listed (take place group) entry

  in_group : (place : ℕ) (entry : TableEntry) → place < length group → entry ≡ get_or group place entry → Contains (map listed group) (listed entry)
  in_group place entry below is = Contains-image listed group entry (place, below, sym is)

  pub highest_at : (place : ℕ) (entry : TableEntry) → place < length group → entry ≡ get_or group place entry → (was second found : Option Entry) → IsHighestOwn (map listed group) (Done place) was →
      second ≡ own_held (listed entry).holding → IsHigher was second found → IsHighestOwn (map listed group) (Done (place + 1)) found
  highest_at place entry below is was second found so_far has higher =
      subst (λ (done : List Listed). IsHighestOwn (map listed group) done found) (sym (one_done place entry below is))
      (highest_more (map listed group) (Done place) (listed entry) (in_group place entry below is) was found so_far second (sym has) higher)

  pub none_own : IsHighestOwn (map listed group) (Done 0) None
  none_own entry own = not_in_none own.0 own.1

  pub highest_of_all : (place : ℕ) → length group ≤ place → (found : Option Entry) → IsHighestOwn (map listed group) (Done place) found → IsHighestOwn (map listed group) (map listed group) found
  highest_of_all place past found is = subst (λ (done : List TableEntry). IsHighestOwn (map listed group) (map listed done) found) (take_all place group past) is

  -- ---- all valid records

  -- these are the valid records of the entries before a place
  abbrev pub AreValid : ℕ → List Weighed → Type 0
  AreValid place found = (entry : Entry) → Contains (map record_of found) entry ↔ IsIn (Done place) entry

  pub none_valid : (found : List Weighed) → found ≡ [] → AreValid 0 found
  none_valid found is entry = (
    λ member. absurd (not_in_none entry (subst (λ (all : List Weighed). Contains (map record_of all) entry) is member)),
    λ has. absurd (not_in_none has.0 has.1),
  )

  in_cases : (place : ℕ) (entry : TableEntry) → place < length group → entry ≡ get_or group place entry → (one : Entry) → IsIn (Done (place + 1)) one ↔ (IsIn (Done place) one ⊎ (valid_held (listed entry).holding ≡ Some one))
  in_cases place entry below is one = (
    λ has.
        ⊎_elim
        (λ before. inl (has.0, before, has.2))
        (λ same. inr (ap (λ (l : Listed). valid_held l.holding) same ∙ has.2))
        (Contains-push_cases (Done place) (listed entry) has.0 (subst (λ (done : List Listed). Contains done has.0) (one_done place entry below is) has.1)),
    λ either.
        ⊎_elim
        (λ before. (before.0, subst (λ (done : List Listed). Contains done before.0) (sym (one_done place entry below is)) (Contains-append_left (Done place) (listed entry ∷ []) before.0 before.1), before.2))
        (λ here. (listed entry, subst (λ (done : List Listed). Contains done (listed entry)) (sym (one_done place entry below is)) (Contains-push (Done place) (listed entry)), here))
        either,
  )

  module _ (place : ℕ) (entry : TableEntry) (below : place < length group) (is : entry ≡ get_or group place entry) (was : List Weighed) (so_far : AreValid place was) where
    pub valid_as_before : valid_held (listed entry).holding ≡ None → AreValid (place + 1) was
    valid_as_before none one = (
      λ member. (in_cases place entry below is one).1 (inl ((so_far one).0 member)),
      λ has.
          ⊎_elim
          (λ before. (so_far one).1 before)
          (λ here. let e : None ≡ Some one = sym none ∙ here in absurd (cc))
          ((in_cases place entry below is one).0 has),
    )

    pub valid_more : (new : Weighed) (found : List Weighed) → valid_held (listed entry).holding ≡ Some (record_of new) → found ≡ was ++ new ∷ [] → AreValid (place + 1) found
    valid_more new found has pushed one =
        let images : map record_of found ≡ map record_of was ++ record_of new ∷ [] = ap (map record_of) pushed ∙ map_push record_of was new in (
          λ member.
              ⊎_elim
              (λ before. (in_cases place entry below is one).1 (inl ((so_far one).0 before)))
              (λ same. (in_cases place entry below is one).1 (inr (has ∙ ap Some same)))
              (Contains-push_cases (map record_of was) (record_of new) one (subst (λ (all : List Entry). Contains all one) images member)),
          λ there.
              subst (λ (all : List Entry). Contains all one) (sym images)
              (⊎_elim
              (λ before. Contains-append_left (map record_of was) (record_of new ∷ []) one ((so_far one).1 before))
              (λ here.
              let e : Some (record_of new) ≡ Some one = sym has ∙ here in
              let same : record_of new ≡ one = cc in
              subst (Contains (map record_of was ++ record_of new ∷ [])) same (Contains-push (map record_of was) (record_of new)))
              ((in_cases place entry below is one).0 there)),
        )

  pub all_valid : (place : ℕ) → length group ≤ place → (found : List Weighed) → AreValid place found → (entry : Entry) → Contains (map record_of found) entry ↔ IsIn (map listed group) entry
  all_valid place past found are = subst (λ (done : List TableEntry). (entry : Entry) → Contains (map record_of found) entry ↔ IsIn (map listed done) entry) (take_all place group past) are

-- a list that is permuted has the same records
pub permuted : (group : List Listed) (before after : List Weighed) → IsPermutation before after → ((entry : Entry) → Contains (map record_of before) entry ↔ IsIn group entry) → (entry : Entry) → Contains (map record_of after) entry ↔ IsIn group entry
permuted group before after moved are entry =
    let images = IsPermutation-map record_of before after moved in (
      λ member. (are entry).0 (Contains-permutation (map record_of after) (map record_of before) entry (IsPermutation-sym (map record_of before) (map record_of after) images) member),
      λ has. Contains-permutation (map record_of before) (map record_of after) entry images ((are entry).1 has),
    )

-- ---- the top

-- each entry's record is at most a version exactly where each valid record is
pub above_each : (group : List Listed) (version : List (ℕ × ℕ)) → ((one : Listed) → Contains group one → IsBelowIfValid version one) ↔ IsAbove group version
above_each group version = (
  λ each entry has. each has.0 has.1 entry has.2,
  λ above one member entry is. above entry (one, member, is),
)

pub no_top : (group : List Listed) → IsHighestOwn group group None → (top : Entry) → ¬ IsTopIn group top
no_top group none top is = none top is.0

pub not_above : (group : List Listed) (highest : Entry) → IsHighestOwn group group (Some highest) → ¬ IsAbove group highest.version → (top : Entry) → ¬ IsTopIn group top
not_above group highest is not top top_is = not (λ entry has. through entry.version top.version highest.version (top_is.1 entry has) (is.1 top top_is.0 top_is.1))

-- ---- one entry's record

pub below_where_none : (version : List (ℕ × ℕ)) (one : Listed) → None ≡ valid_held one.holding → IsBelowIfValid version one
below_where_none version one none entry has = let e : None ≡ Some entry = none ∙ has in absurd (cc)

pub below_where_some : (version : List (ℕ × ℕ)) (one : Listed) (found : Entry) → Some found ≡ valid_held one.holding → (r : Bool) → IsTrue r ↔ IsAtMost found.version version → IsTrue r ↔ IsBelowIfValid version one
below_where_some version one found is r exactly = (
  λ holds entry has.
      let e : Some found ≡ Some entry = is ∙ has in
      let same : found ≡ entry = cc in
      subst (λ (x : Entry). IsAtMost x.version version) same (exactly.0 holds),
  λ below. exactly.1 (below found (sym is)),
)
