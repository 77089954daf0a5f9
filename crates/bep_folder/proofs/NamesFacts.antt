-- The names of which a folder has a node or a record, as they are gathered.
use Rattle.std.proofs.Common.{◌≡◌, ◌⊎◌, ◌↔◌, ◌∙◌, ◌++◌, ◌<◌, ◌≤◌, ◌∷◌, [], ℕ, zero, suc, drop, take, slice_get, List, Option, Some, None, Contains, IsSome, Bool, true, false, cond, inl, inr, refl, sym, ap, subst, ⊎_elim, arith}
use Rattle.std.specs.Ordering.{nat_cmp, eq_by_cmp}
use Rattle.std.specs.Cmp.{Equal-is}
use Rattle.std.specs.Cmp.Lexicographic.{slice_cmp, nat_list_cmp_total}
use Rattle.std.specs.FinMap.{empty, get, insert, keys, get-empty, get-insert}
use Rattle.std.proofs.lemmas.List.Elements.{Contains-push, Contains-append_left, Contains-push_cases}
use Rattle.std.proofs.lemmas.Bool.{cases_lt}
use Rattle.std.proofs.lemmas.Map.Lookups.{exact_bytes}
use Rattle.bep_facts.specs.Maps.{get-insert_here, key_has_value}
use Rattle.bep_facts.specs.Members.{not_in_none}
use Rattle.bep_map.specs.NameMap.{ByName}
use Rattle.bep_record.specs.declared.entry.Entry.{Entry}
use Rattle.bep_index.specs.After.{IsAfter}
use Rattle.bep_index.specs.Index.{IsIndex}
use Rattle.bep_index.specs.Listing.{Listing}
use Rattle.bep_model.specs.Tables.{FileName}
use Rattle.bep_machine.specs.Replica.{Replica}
use Rattle.bep_folder.specs.Names.{AddsRecorded, AreGathered, IsNameHere, one_of}

abbrev pub Names : Type 0
Names = ByName (Unit {0})

some_there : (o : Option (Unit {0})) → o ≡ Some tt → IsSome o
some_there None is = absurd (let e : None ≡ Some tt = is in cc)
some_there (Some u) is = refl

-- a name more
here : (names : Names) (name : FileName) → IsSome (get (insert names name tt) name)
here names name = some_there (get (insert names name tt) name) (get-insert_here nat_list_cmp_total exact_bytes names name tt)

after : (names : Names) (name other : FileName) → (other ≡ name) ⊎ (get (insert names name tt) other ≡ get names other)
after names name other = cases (eq_by_cmp (slice_cmp nat_cmp) other name) refl where
  cases : (b : Bool) → eq_by_cmp (slice_cmp nat_cmp) other name ≡ b → (other ≡ name) ⊎ (get (insert names name tt) other ≡ get names other)
  cases true tied = inl (exact_bytes other name ((Equal-is _).0 tied))
  cases false apart = inr (get-insert nat_list_cmp_total names name tt other ∙ ap (λ b. cond b (Some tt) (get names other)) apart)

kept : (names : Names) (name other : FileName) → IsSome (get names other) → IsSome (get (insert names name tt) other)
kept names name other has =
    ⊎_elim
    (λ same. subst (λ (n : FileName). IsSome (get (insert names name tt) n)) (sym same) (here names name))
    (λ is. subst (λ (o : Option (Unit {0})). IsSome o) (sym is) has)
    (after names name other)

-- ---- records, by their sequence

-- the names of the records up to this sequence were added, and no others
pub record AddsUpTo (records : ByName Entry) (sequence : ℕ) (old new : Names) : Type 0 where
  pub kept : (name : FileName) → IsSome (get old name) → IsSome (get new name)
  pub only : (name : FileName) → IsSome (get new name) → IsSome (get old name) ⊎ IsSome (get records name)
  pub each : (name : FileName) (entry : Entry) → get records name ≡ Some entry → entry.sequence ≤ sequence → IsSome (get new name)

module _ (index : Listing) (an_index : IsIndex index) where
  -- no record has a sequence of 0
  pub up_to_nothing : (names : Names) → AddsUpTo index.records 0 names names
  up_to_nothing names = record {
    kept = λ name has. has;
    only = λ name has. inl has;
    each = λ name entry found few. absurd (let numbered = (an_index.numbered name entry found).1 in omega (arith, few, numbered));
  }

  -- the next record after a sequence
  pub up_to_next : (old new : Names) (sequence : ℕ) (next : Entry) → AddsUpTo index.records sequence old new → IsAfter index.records sequence 1 (next ∷ []) → AddsUpTo index.records next.sequence old (insert new next.name tt)
  up_to_next old new sequence next adds found = record {
    kept = λ name has. kept new next.name name (adds.kept name has);
    only = λ name has. ⊎_elim
        (λ same. inr (subst (λ (n : FileName). IsSome (get index.records n)) (sym same) (recorded (get index.records next.name) found.run.recorded.0)))
        (λ is. adds.only name (subst (λ (o : Option (Unit {0})). IsSome o) is has))
        (after new next.name name);
    each = λ name entry is few. each name entry is few (cases_lt sequence entry.sequence);
  } where
    recorded : (o : Option Entry) → o ≡ Some next → IsSome o
    recorded None is = absurd (let e : None ≡ Some next = is in cc)
    recorded (Some e) is = refl

    each : (name : FileName) (entry : Entry) → get index.records name ≡ Some entry → entry.sequence ≤ next.sequence → (sequence < entry.sequence) ⊎ (entry.sequence ≤ sequence) → IsSome (get (insert new next.name tt) name)
    each name entry is few (inr before) = kept new next.name name (adds.each name entry is before)
    each name entry is few (inl above) =
        let named = (an_index.numbered name entry is).0 in
        let its = ap (λ (n : FileName). get index.records n) named ∙ is in
        ⊎_elim
        (λ same. subst (λ (n : FileName). IsSome (get (insert new next.name tt) n)) (ap (λ (e : Entry). e.name) (sym same) ∙ named) (here new next.name))
        (λ none. absurd none)
        (found.run.whole entry its above few)

  -- where there is none, all records are there
  pub up_to_last : (old new : Names) (sequence : ℕ) → AddsUpTo index.records sequence old new → IsAfter index.records sequence 1 [] → AddsRecorded index.records old new
  up_to_last old new sequence adds none name = (
    adds.only name,
    λ has. ⊎_elim (λ before. adds.kept name before) (λ there. found (get index.records name) refl there) has,
  ) where
    found : (o : Option Entry) → get index.records name ≡ o → IsSome o → IsSome (get new name)
    found None is there = absurd (let e : false ≡ true = there in cc)
    found (Some entry) is there =
        let named = (an_index.numbered name entry is).0 in
        let its = ap (λ (n : FileName). get index.records n) named ∙ is in
        adds.each name entry is (none.ended (omega arith) entry its)

-- the first of what is left of a list
pub first_of : (entries : List Entry) (place : ℕ) → take 1 (drop place entries) ≡ one_of (slice_get entries place)
first_of [] zero = refl
first_of [] (suc place) = refl
first_of (entry ∷ more) zero = refl
first_of (entry ∷ more) (suc place) = first_of more place

-- ---- names of a list

-- the names are those of the list
abbrev pub AreNames : List FileName → Names → Type 0
AreNames list names = (name : FileName) → IsSome (get names name) ↔ Contains list name

pub no_names : AreNames [] empty
no_names name = (
  λ has. absurd (let e : false ≡ true = subst (λ (o : Option (Unit {0})). IsSome o) (get-empty (slice_cmp nat_cmp) name) has in cc),
  λ member. absurd (not_in_none name member),
)

pub name_more : (list : List FileName) (names : Names) (one : FileName) → AreNames list names → AreNames (list ++ one ∷ []) (insert names one tt)
name_more list names one are name = (
  λ has. ⊎_elim
      (λ same. subst (λ (n : FileName). Contains (list ++ one ∷ []) n) (sym same) (Contains-push list one))
      (λ is. Contains-append_left list (one ∷ []) name ((are name).0 (subst (λ (o : Option (Unit {0})). IsSome o) is has)))
      (after names one name),
  λ member. ⊎_elim
      (λ before. kept names one name ((are name).1 before))
      (λ same. subst (λ (n : FileName). IsSome (get (insert names one tt) n)) same (here names one))
      (Contains-push_cases list one name member),
)

-- ---- the store's names, and the records'

pub all_gathered : (list : List FileName) (records : ByName Entry) (stored names : Names) → AreNames list stored → AddsRecorded records stored names → AreGathered list records names
all_gathered list records stored names are adds name = (
  λ has. ⊎_elim (λ node. inl ((are name).0 node)) (λ own. inr own) ((adds name).0 has),
  λ here. (adds name).1 (⊎_elim (λ node. inl ((are name).1 node)) (λ own. inr own) here),
)

pub names_here : (tables : Replica) (list : List FileName) (names : Names) → list ≡ keys tables.store → AreGathered list tables.index.records names →
    (name : FileName) → IsSome (get names name) ↔ IsNameHere tables name
names_here tables list names all are name =
    let has_node = key_has_value nat_list_cmp_total exact_bytes tables.store name in (
      λ has. ⊎_elim
          (λ node. inl (has_node.0 (subst (λ (names : List FileName). Contains names name) all node)))
          (λ own. inr own)
          ((are name).0 has),
      λ here. (are name).1 (⊎_elim
          (λ node. inl (subst (λ (names : List FileName). Contains names name) (sym all) (has_node.1 node)))
          (λ own. inr own)
          here),
    )
