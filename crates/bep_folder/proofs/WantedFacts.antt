-- The names of which a device wants a record.
use Rattle.std.proofs.Common.{◌≡◌, ◌⊎◌, ◌↔◌, ◌∙◌, ◌++◌, ◌∷◌, [], ℕ, List, Option, Some, None, Contains, IsSome, IfSome, is_none, Bool, true, false, cond, inl, inr, refl, sym, ap, subst, ⊎_elim, arith}
use Rattle.std.specs.Ordering.{nat_cmp, eq_by_cmp}
use Rattle.std.specs.Cmp.Lexicographic.{slice_cmp, nat_list_cmp_total}
use Rattle.std.specs.FinMap.{IsAntisymmetric, empty, get, insert, values, get-empty, get-insert, nat_cmp-IsAntisymmetric, slice_cmp-IsAntisymmetric}
use Rattle.std.proofs.lemmas.List.Elements.{Contains-append_cases, Contains-push_cases}
use Rattle.bep_facts.specs.Maps.{get-insert_here, found_after_insert}
use Rattle.bep_facts.specs.Members.{not_in_none, Contains-one, Contains-from_flat_map}
use Rattle.bep_facts.specs.Values.{value_at_key}
use Rattle.bep_map.specs.NameMap.{ByName}
use Rattle.bep_record.specs.declared.entry.Entry.{Entry}
use Rattle.bep_record.specs.declared.folder_kind.FolderKind.{FolderKind}
use Rattle.bep_record.specs.Vector.{IsAtMost}
use Rattle.bep_index.specs.Listing.{Listing}
use Rattle.bep_index.specs.Index.{IsIndex}
use Rattle.std.specs.Borrow.{Bor}
use Rattle.std.specs.Prelude.{unwrap_or}
use Rattle.bep_index.specs.View.{cleared}
use Rattle.bep_choice.specs.Choice.{Candidate}
use Rattle.bep_choice.specs.Need.{NeedsBeside, IsNeeded}
use Rattle.bep_model.specs.Tables.{Device, FileName}
use Rattle.bep_model.specs.Winner.{beside}
use Rattle.bep_machine.specs.Replica.{ByDevice, Replica, Wants, own_at}
use Rattle.bep_folder.specs.inner.Chosen.{record_in, viewed_among, known_by}
use Rattle.bep_folder.specs.Wanted.{IsWantedName}
use Rattle.bep_folder.specs.inner.Wanted.{AddsWanted, IsRecorded, IsViewedOf}
use Rattle.bep_folder.proofs.KnownFacts.{candidates_known}

-- ---- what is wanted is another's record

at_most_itself : (version : List (ℕ × ℕ)) → IsAtMost version version
at_most_itself version = λ id. omega arith

own_is_not_needed : (kind : FolderKind) (own : Option Entry) (entry : Entry) → own ≡ Some entry → entry.invalid ≡ false → ¬ IsNeeded kind own entry
own_is_not_needed kind None entry is valid needed = absurd (let e : None ≡ Some entry = is in cc)
own_is_not_needed kind (Some own) entry is valid needed =
    let same : own ≡ entry = cc in
    let beside_itself : NeedsBeside entry.invalid kind entry entry = subst (λ (o : Entry). NeedsBeside o.invalid kind o entry) same needed in
    let parts : NeedsBeside false kind entry entry = subst (λ b. NeedsBeside b kind entry entry) valid beside_itself in
    absurd (parts.0 (at_most_itself entry.version))

record_beside : (device : Device) (own : Option Entry) (one : Candidate) → Contains (beside device own) one → own ≡ Some one.1
record_beside device None one member = absurd (not_in_none one member)
record_beside device (Some entry) one member = ap (λ (c : Candidate). Some c.1) (Contains-one (device, entry) one member)

some_is : (entry : Option Entry) (one : Entry) → entry ≡ Some one → IsSome entry
some_is None one is = absurd (let e : None ≡ Some one = is in cc)
some_is (Some entry) one is = refl

-- the record of a wanted name stands in the view of some device
pub wanted_is_viewed : (device : Device) (replica : Replica) (name : FileName) → IsWantedName device replica name → (other : Device) × Contains replica.others other × IsSome (record_in replica.views name other)
wanted_is_viewed device replica name wanted =
    let entry = wanted.0 in
    let one : Candidate = (wanted.1.chosen.0, entry) in
    let choice = wanted.1.chosen.1 in
    let member : Contains (known_by device (own_at replica name) replica.views name replica.others) one = subst (λ (all : List Candidate). Contains all one) (sym (candidates_known device replica name)) choice.left.valid.0 in
    ⊎_elim
    (λ own. absurd (own_is_not_needed replica.kind (own_at replica name) entry (record_beside device (own_at replica name) one own) choice.left.valid.1 wanted.1.needed))
    (λ viewed.
    let found = Contains-from_flat_map (λ (other : Device). beside other (record_in replica.views name other)) replica.others one viewed in
    (found.0, found.1, some_is (record_in replica.views name found.0) entry (record_beside found.0 (record_in replica.views name found.0) one found.2)))
    (Contains-append_cases (beside device (own_at replica name)) (viewed_among replica.views name replica.others) one member)

-- ---- adding names

abbrev Names : Type 0
Names = ByName (Unit {0})

-- one of these records has the name
abbrev pub IsNameOf : List Entry → FileName → Type 0
IsNameOf entries name = (entry : Entry) × Contains entries entry × (entry.name ≡ name)

-- one of these devices' views has it
abbrev pub IsViewedAmong : ByDevice Listing → List Device → FileName → Type 0
IsViewedAmong views others name = (other : Device) × Contains others other × IsViewedOf views other name

exact_names : IsAntisymmetric (slice_cmp nat_cmp)
exact_names = slice_cmp-IsAntisymmetric nat_cmp-IsAntisymmetric

-- what is found is wanted
pub found_wanted : (device : Device) (replica : Replica) (name : FileName) (found : Option (Bor Entry)) → IfSome found (λ one. Wants device replica name one.now) → is_none found ≡ false → IsWantedName device replica name
found_wanted device replica name None wants there = absurd (let e : true ≡ false = there in cc)
found_wanted device replica name (Some one) wants there = (one.now, wants)

module _ (device : Device) (replica : Replica) where
  -- nothing was looked at
  pub adds_nothing : (names : Names) → AddsWanted device replica names names (λ name. ⊥)
  adds_nothing names = record {
    kept = λ name has. has;
    wanted = λ name has. inl has;
    each = λ name looked wants. absurd looked;
  }

  -- a name that is there already, or isn't wanted
  pub adds_none : (names : Names) (name : FileName) → IsSome (get names name) ⊎ (¬ IsWantedName device replica name) → AddsWanted device replica names names (λ other. other ≡ name)
  adds_none names name there = record {
    kept = λ other has. has;
    wanted = λ other has. inl has;
    each = λ other same wants.
        ⊎_elim
        (λ has. subst (λ n. IsSome (get names n)) (sym same) has)
        (λ not. absurd (not (subst (IsWantedName device replica) same wants)))
        there;
  }

  -- a wanted name
  pub adds_one : (names : Names) (name : FileName) → IsWantedName device replica name → AddsWanted device replica names (insert names name tt) (λ other. other ≡ name)
  adds_one names name wants = record {
    kept = kept;
    wanted = λ other has. after other (get (insert names name tt) other) refl has;
    each = λ other same other_wants. subst (λ n. IsSome (get (insert names name tt) n)) (sym same) (here (get (insert names name tt) name) (get-insert_here nat_list_cmp_total exact_names names name tt));
  }
    where
      here : (found : Option (Unit {0})) → found ≡ Some tt → IsSome found
      here None is = absurd (let e : None ≡ Some tt = is in cc)
      here (Some u) is = refl

      after : (other : FileName) (found : Option (Unit {0})) → get (insert names name tt) other ≡ found → IsSome found → IsSome (get names other) ⊎ IsWantedName device replica other
      after other None is has = absurd (let e : false ≡ true = has in cc)
      after other (Some u) is has =
          ⊎_elim
          (λ same. inr (subst (IsWantedName device replica) (sym same.0) wants))
          (λ before. inl (subst (λ (o : Option (Unit {0})). IsSome o) (sym before.1) refl))
          (found_after_insert nat_list_cmp_total exact_names names name tt other u is)

      kept : (other : FileName) → IsSome (get names other) → IsSome (get (insert names name tt) other)
      kept other has = cases (eq_by_cmp (slice_cmp nat_cmp) other name) refl
        where
          cases : (b : Bool) → eq_by_cmp (slice_cmp nat_cmp) other name ≡ b → IsSome (get (insert names name tt) other)
          cases true tied = subst (λ (o : Option (Unit {0})). IsSome o) (sym (get-insert nat_list_cmp_total names name tt other ∙ ap (λ b. cond b (Some tt) (get names other)) tied)) refl
          cases false apart = subst (λ (o : Option (Unit {0})). IsSome o) (sym (get-insert nat_list_cmp_total names name tt other ∙ ap (λ b. cond b (Some tt) (get names other)) apart)) has

  -- of names that were looked at in two steps, and of fewer names
  pub adds_both : (old mid new : Names) (P Q R : FileName → Type 0) → AddsWanted device replica old mid P → AddsWanted device replica mid new Q → ((name : FileName) → R name → P name ⊎ Q name) → AddsWanted device replica old new R
  adds_both old mid new P Q R first second covered = record {
    kept = λ name has. second.kept name (first.kept name has);
    wanted = λ name has. ⊎_elim (λ before. first.wanted name before) (λ wants. inr wants) (second.wanted name has);
    each = λ name looked wants.
        ⊎_elim
        (λ p. second.kept name (first.each name p wants))
        (λ q. second.each name q wants)
        (covered name looked);
  }

  pub adds_fewer : (old new : Names) (P R : FileName → Type 0) → AddsWanted device replica old new P → ((name : FileName) → R name → P name) → AddsWanted device replica old new R
  adds_fewer old new P R adds covered = record {
    kept = adds.kept;
    wanted = adds.wanted;
    each = λ name looked wants. adds.each name (covered name looked) wants;
  }

  -- one more record, or one more device
  pub adds_next : (old mid new : Names) (entries : List Entry) (entry : Entry) → AddsWanted device replica old mid (IsNameOf entries) → AddsWanted device replica mid new (λ other. other ≡ entry.name) → AddsWanted device replica old new (IsNameOf (entries ++ entry ∷ []))
  adds_next old mid new entries entry first second = adds_both old mid new (IsNameOf entries) (λ other. other ≡ entry.name) (IsNameOf (entries ++ entry ∷ [])) first second (λ name named.
      ⊎_elim
      (λ before. inl (named.0, before, named.2))
      (λ same. inr (sym named.2 ∙ ap (λ (e : Entry). e.name) (sym same)))
      (Contains-push_cases entries entry named.0 named.1))

  pub adds_next_view : (old mid new : Names) (views : ByDevice Listing) (others : List Device) (other : Device) → AddsWanted device replica old mid (IsViewedAmong views others) → AddsWanted device replica mid new (IsViewedOf views other) → AddsWanted device replica old new (IsViewedAmong views (others ++ other ∷ []))
  adds_next_view old mid new views others other first second = adds_both old mid new (IsViewedAmong views others) (IsViewedOf views other) (IsViewedAmong views (others ++ other ∷ [])) first second (λ name viewed.
      ⊎_elim
      (λ before. inl (viewed.0, before, viewed.2))
      (λ same. inr (subst (λ (d : Device). IsViewedOf views d name) (sym same) viewed.2))
      (Contains-push_cases others other viewed.0 viewed.1))

  -- all records of a view
  pub adds_all : (old new : Names) (view : Listing) (entries : List Entry) → IsIndex view → entries ≡ values view.records → AddsWanted device replica old new (IsNameOf entries) → AddsWanted device replica old new (IsRecorded view.records)
  adds_all old new view entries index whole adds = adds_fewer old new (IsNameOf entries) (IsRecorded view.records) adds (λ name recorded. named name (get view.records name) refl recorded)
    where
      named : (name : FileName) (found : Option Entry) → get view.records name ≡ found → IsSome found → IsNameOf entries name
      named name None is there = absurd (let e : false ≡ true = there in cc)
      named name (Some entry) is there = (entry, subst (λ (all : List Entry). Contains all entry) (sym whole) (value_at_key view.records name entry is), (index.numbered name entry is).0)

  -- from no names on, the wanted ones are those that were added
  pub exactly_wanted : (new : Names) (others : List Device) → others ≡ replica.others → AddsWanted device replica empty new (IsViewedAmong replica.views others) → (name : FileName) → IsSome (get new name) ↔ IsWantedName device replica name
  exactly_wanted new others same adds name = (
    λ has. ⊎_elim (λ before. absurd (nothing (get empty name) (get-empty (slice_cmp nat_cmp) name) before)) (λ wants. wants) (adds.wanted name has),
    λ wants. let viewed = wanted_is_viewed device replica name wants in adds.each name (viewed.0, subst (λ (all : List Device). Contains all viewed.0) (sym same) viewed.1, viewed.2) wants,
  )
    where
      nothing : (found : Option (Unit {0})) → found ≡ None → ¬ IsSome found
      nothing None is there = absurd (let e : false ≡ true = there in cc)
      nothing (Some u) is there = absurd (let e : Some u ≡ None = is in cc)

  -- a device of which nothing is known
  pub adds_unknown : (names : Names) (views : ByDevice Listing) (other : Device) → get views other ≡ None → AddsWanted device replica names names (IsViewedOf views other)
  adds_unknown names views other unknown =
      adds_fewer names names (λ name. ⊥) (IsViewedOf views other) (adds_nothing names) (λ name viewed. no_record (record_in views name other) (ap (λ (view : Option Listing). get (unwrap_or view (cleared 0)).records name) unknown ∙ get-empty (slice_cmp nat_cmp) name) viewed)
    where
      no_record : (found : Option Entry) → found ≡ None → ¬ IsSome found
      no_record None is there = absurd (let e : false ≡ true = there in cc)
      no_record (Some entry) is there = absurd (let e : Some entry ≡ None = is in cc)
