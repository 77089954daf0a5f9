-- A device that starts over: whether the id is above that of each of its indexes.
use Rattle.std.proofs.Common.{◌≡◌, ◌↔◌, ◌≤◌, ◌<◌, ◌||◌, ℕ, Bool, true, false, nat_le, List, [], ◌∷◌, Option, Some, None, Contains, option_map, refl, sym, ap, subst, ◌∙◌, ⊎_elim, arith}
use Rattle.std.proofs.lemmas.Bool.Decides.{nat_tests}
use Rattle.std.specs.Cmp.Lexicographic.{nat_list_cmp_total}
use Rattle.std.proofs.lemmas.Map.Lookups.{exact_bytes}
use Rattle.std.proofs.lemmas.Option.{same_Some}
use Rattle.std.specs.List.{list_any}
use Rattle.std.specs.FinMap.{get, entries}
use Rattle.bep_facts.specs.Entries.{entry_stands}
use Rattle.bep_facts.specs.Members.{Contains-first, Contains-more, Contains-cons_cases, not_in_none}
use Rattle.bep_map.specs.NameMap.{ByName}
use Rattle.bep_model.specs.Tables.{Folder}
use Rattle.bep_machine.specs.Peer.{Session}
use Rattle.bep_machine.specs.Replica.{ByDevice, Replica}
use Rattle.bep_machine.specs.Steps.{HasIdFrom}
use Rattle.bep_folder.specs.Held.{Held}
use Rattle.bep_peer.specs.Member.{HasFailed, Member, Remains, tables_in, untold}
use Rattle.bep_peer.proofs.Changed.{tables_at}

-- some folder's index has this id, or one above it
abbrev pub has_id_from : ℕ → ByName Held → Bool
has_id_from id folders = list_any (λ one. nat_le id one.1.tables.index.id) (entries folders)

any_of_member : {X : Type 0} (test : X → Bool) (xs : List X) (x : X) → Contains xs x → test x ≡ true → list_any test xs ≡ true
any_of_member test [] x member passes = absurd (not_in_none x member)
any_of_member test (first ∷ xs) x member passes =
    ⊎_elim
    (λ same. ap (λ b. b || list_any test xs) (ap test same ∙ passes))
    (λ more. later (test first) (any_of_member test xs x more passes))
    (Contains-cons_cases first xs x member)
  where
    later : (b : Bool) → list_any test xs ≡ true → (b || list_any test xs) ≡ true
    later true e = refl
    later false e = e

member_of_any : {X : Type 0} (test : X → Bool) (xs : List X) → list_any test xs ≡ true → (x : X) × Contains xs x × (test x ≡ true)
member_of_any test [] any = absurd (cc)
member_of_any test (first ∷ xs) any = cases (test first) refl any (λ rest. member_of_any test xs rest)
  where
    cases : (b : Bool) → test first ≡ b → (b || list_any test xs) ≡ true → (list_any test xs ≡ true → (x : _) × Contains xs x × (test x ≡ true)) → (x : _) × Contains (first ∷ xs) x × (test x ≡ true)
    cases true is e more = (first, Contains-first first xs, is)
    cases false is e more = let found = more e in (found.0, Contains-more first xs found.0 found.1, found.2)

held_at : (found : Option Held) (replica : Replica) → option_map (λ (held : Held). held.tables) found ≡ Some replica → (held : Held) × (found ≡ Some held) × (held.tables ≡ replica)
held_at None replica is = absurd (cc)
held_at (Some held) replica is = (held, refl, cc)

-- the test says so exactly of the tables
pub id_is_old : (id : ℕ) (folders : ByName Held) (sessions : ByDevice Session) → (has_id_from id folders ≡ true) ↔ HasIdFrom id (record { replicas = tables_in folders; sessions = sessions })
id_is_old id folders sessions = (there, back)
  where
    there : has_id_from id folders ≡ true → HasIdFrom id (record { replicas = tables_in folders; sessions = sessions })
    there any =
        let found = member_of_any (λ (one : Folder × Held). nat_le id one.1.tables.index.id) (entries folders) any in
        let here = (entry_stands nat_list_cmp_total exact_bytes folders found.0.0 found.0.1).1 found.1 in
        (found.0.0, found.0.1.tables, tables_at folders found.0.0 ∙ ap (option_map (λ (held : Held). held.tables)) here, below found.0.1.tables.index.id found.2)
      where
        below : (n : ℕ) → nat_le id n ≡ true → id ≤ n
        below n is = grind (arith, nat_tests)

    back : HasIdFrom id (record { replicas = tables_in folders; sessions = sessions }) → has_id_from id folders ≡ true
    back (folder, replica, here, low) =
        let held = held_at (get folders folder) replica (sym (tables_at folders folder) ∙ here) in
        let same : held.0.tables.index.id ≡ replica.index.id = ap (λ (r : Replica). r.index.id) held.2 in
        any_of_member (λ (one : Folder × Held). nat_le id one.1.tables.index.id) (entries folders) (folder, held.0)
        ((entry_stands nat_list_cmp_total exact_bytes folders folder held.0).0 held.1) (within held.0.tables.index.id (omega (arith, low, same)))
      where
        within : (n : ℕ) → id ≤ n → nat_le id n ≡ true
        within n is = grind (arith, nat_tests)

-- a device that is refused to start over is as it was
none_failed : (old : Member) → ¬ HasFailed old (untold old)
none_failed old failed =
    let found : Some failed.was ≡ Some failed.now = sym failed.before ∙ failed.after in
    let one : failed.was ≡ failed.now = same_Some failed.was failed.now found in
    let rose : failed.now.faults < failed.now.faults = subst (λ (h : Held). h.faults < failed.now.faults) one failed.rose in
    absurd (omega arith)

pub remains_as_it_was : (old new : Member) → new ≡ untold old → Remains old new
remains_as_it_was old new same =
    subst (Remains old) (sym same) (record { number = refl; linked = refl; failed = (λ told. absurd (cc), λ failed. absurd (none_failed old failed)) })
