-- What a device pulls, as a cut has it.
use Rattle.std.proofs.Common.{◌≡◌, ◌≤◌, ◌∙◌, suc, Bool, true, false, cond, List, [], ◌∷◌, map, length, Option, Some, None, option_map, refl, ap, sym, subst, arith}
use Rattle.std.specs.Ordering.{nat_cmp, eq_by_cmp}
use Rattle.std.specs.Cmp.Lexicographic.{slice_cmp, nat_list_cmp_total}
use Rattle.std.specs.FinMap.{find, get, len, entries, from_entries, get-entries, get-from_entries, len-empty, len-entries}
use Rattle.std.proofs.lemmas.List.{length-map}
use Rattle.std.proofs.lemmas.Map.Lookups.{exact_bytes}
use Rattle.bep_facts.specs.Entries.{entry_stands}
use Rattle.bep_facts.specs.Maps.{len-insert_le}
use Rattle.bep_facts.specs.Members.{holds_of_member}
use Rattle.bep_map.specs.NameMap.{ByName}
use Rattle.bep_record.specs.declared.entry.Entry.{Entry}
use Rattle.bep_index.specs.declared.limits.TheConstants.{MAX_SEQUENCE}
use Rattle.bep_model.specs.Tables.{FileName}
use Rattle.bep_machine.specs.Replica.{Pull}
use Rattle.bep_folder.specs.Held as folders
use Rattle.bep_folder.specs.Pull.{IsPull}
use Rattle.bep_tables.specs.Cut.{ArePulls}
use Rattle.bep_cut.specs.Share.{ArePullsEach, target_cut, targets_cut}

find_target : (es : List (FileName × Pull)) (name : FileName) → find (slice_cmp nat_cmp) name (map target_cut es) ≡ option_map (λ (p : Pull). p.target) (find (slice_cmp nat_cmp) name es)
find_target [] name = refl
find_target (e ∷ es) name = cases (eq_by_cmp (slice_cmp nat_cmp) name e.0) (find_target es name)
  where
    cases : (b : Bool) → find (slice_cmp nat_cmp) name (map target_cut es) ≡ option_map (λ (p : Pull). p.target) (find (slice_cmp nat_cmp) name es) →
        cond b (Some e.1.target) (find (slice_cmp nat_cmp) name (map target_cut es)) ≡ option_map (λ (p : Pull). p.target) (cond b (Some e.1) (find (slice_cmp nat_cmp) name es))
    cases true rest = refl
    cases false rest = rest

few_from : (es : List (FileName × Entry)) → len (from_entries {R = slice_cmp nat_cmp} es) ≤ length es
few_from [] = let none = len-empty (slice_cmp nat_cmp) Entry in omega (arith, none)
few_from (e ∷ es) =
    let few = few_from es in
    len-insert_le nat_list_cmp_total (from_entries {R = slice_cmp nat_cmp} es) e.0 e.1 (suc (length es)) (omega (arith, few)) (λ none. omega (arith, few))

module _ (pulls : ByName Pull) where
  pub target_found : (name : FileName) → get (targets_cut pulls) name ≡ option_map (λ (p : Pull). p.target) (get pulls name)
  target_found name =
      get-from_entries nat_list_cmp_total (map target_cut (entries pulls)) name
      ∙ find_target (entries pulls) name
      ∙ ap (option_map (λ (p : Pull). p.target)) (sym (get-entries pulls name))

  -- each is a pull's target
  of_pull : (name : FileName) (entry : Entry) → get (targets_cut pulls) name ≡ Some entry → (pull : Pull) × (get pulls name ≡ Some pull) × (pull.target ≡ entry)
  of_pull name entry is = cases (get pulls name) refl where
    cases : (found : Option Pull) → get pulls name ≡ found → (pull : Pull) × (get pulls name ≡ Some pull) × (pull.target ≡ entry)
    cases None none = absurd (let e : None ≡ Some entry = sym (target_found name ∙ ap (option_map (λ (p : Pull). p.target)) none) ∙ is in cc)
    cases (Some pull) there = (pull, there, let e : Some pull.target ≡ Some entry = sym (target_found name ∙ ap (option_map (λ (p : Pull). p.target)) there) ∙ is in cc)

  pub are_pulls : folders.ArePulls pulls → ArePullsEach pulls → ArePulls (targets_cut pulls)
  are_pulls are each = record {
    few =
        let few = few_from (map target_cut (entries pulls)) in
        let same = length-map (entries pulls) target_cut in
        let all = len-entries pulls in
        let most = are.few in
        omega (arith, few, same, all, most);
    named = λ name entry is.
        let from = of_pull name entry is in (
          subst (λ (e : Entry). e.name ≡ name) from.2 (are.named name from.0 from.1),
          subst (λ (e : Entry). e.invalid ≡ false) from.2 (a_pull name from.0 from.1).valid,
        );
    within = λ name entry is. let from = of_pull name entry is in subst (λ (e : Entry). e.sequence ≤ MAX_SEQUENCE) from.2 (a_pull name from.0 from.1).within;
  } where
    a_pull : (name : FileName) (pull : Pull) → get pulls name ≡ Some pull → IsPull pull
    a_pull name pull there =
        holds_of_member (λ (one : FileName × Pull). IsPull one.1) (entries pulls) (name, pull) each
        ((entry_stands nat_list_cmp_total exact_bytes pulls name pull).0 there)
