-- Finite maps from names to entries, and lists of entries.
use Rattle.std.proofs.Common.{◌≡◌, ◌⊎◌, inl, inr, ℕ, ◌+◌, ◌<◌, ◌≤◌, Bool, true, false, List, [], ◌∷◌, Contains, Some, None, sym, ap, subst, ◌∙◌, ⊎_elim, arith}
use Rattle.std.specs.Ordering.{nat_cmp, eq_by_cmp}
use Rattle.std.specs.Cmp.Lexicographic.{slice_cmp, nat_list_cmp_total}
use Rattle.std.specs.FinMap.{get, insert, len}
use Rattle.std.proofs.lemmas.Map.Lookups.{exact_bytes}
use Rattle.std.proofs.lemmas.Cmp.{tied_itself}
use Rattle.std.specs.Ordering.{is_eq}
use Rattle.bep_facts.specs.Maps.{same_key, found_after_insert}
use Rattle.bep_facts.specs.Maps as maps
use Rattle.bep_facts.specs.Members.{not_in_none, Contains-first, Contains-more, Contains-cons_cases}
use Rattle.bep_map.specs.NameMap.{ByName}
use Rattle.bep_record.specs.declared.entry.Entry.{Entry}
use Rattle.bep_index.specs.Index.{AreNumbered, HaveOwnNumbers}
use Rattle.bep_index.specs.Laws.{AmongIsContained}

abbrev Name : Type 0
Name = List ℕ

abbrev pub same_name : List ℕ → List ℕ → Bool
same_name = eq_by_cmp (slice_cmp nat_cmp)

pub same_name-itself : (n : List ℕ) → same_name n n ≡ true
same_name-itself n = ap is_eq (tied_itself nat_list_cmp_total n)

pub equal_from_same_name : (n m : List ℕ) → same_name n m ≡ true → n ≡ m
equal_from_same_name = same_key exact_bytes

pub clash : (n m : List ℕ) → n ≡ m → same_name n m ≡ false → ⊥
clash n m q apart = different (sym apart ∙ ap (λ k. same_name k m) q ∙ same_name-itself m) where
  different : false ≡ true → ⊥
  different e = cc

pub len-insert_le : {V : Type 0} (m : ByName V) (n : List ℕ) (v : V) (most : ℕ) → len m ≤ most → (get m n ≡ None → len m + 1 ≤ most) → len (insert m n v) ≤ most
len-insert_le = maps.len-insert_le nat_list_cmp_total

-- an entry that is given its name, under a number up to a greatest that isn't below the old one
pub AreNumbered-insert : (records : ByName Entry) (n top : ℕ) (entry : Entry) → AreNumbered n records → n ≤ top → 1 ≤ entry.sequence → entry.sequence ≤ top → AreNumbered top (insert records entry.name entry)
AreNumbered-insert records n top entry old above positive within q found h = cases (found_after_insert nat_list_cmp_total exact_bytes records entry.name entry q found h) where
  cases : ((q ≡ entry.name) × (found ≡ entry)) ⊎ ((same_name q entry.name ≡ false) × (get records q ≡ Some found)) → (found.name ≡ q) × (1 ≤ found.sequence) × (found.sequence ≤ top)
  cases (inl (here, same)) = subst (λ (e : Entry). (e.name ≡ q) × (1 ≤ e.sequence) × (e.sequence ≤ top)) (sym same) (sym here, positive, within)
  cases (inr (apart, there)) = let o = old q found there in (o.0, o.1, omega arith)

-- an entry that is given its name, under a number above all others
pub HaveOwnNumbers-insert : (records : ByName Entry) (n : ℕ) (entry : Entry) → AreNumbered n records → HaveOwnNumbers records → n < entry.sequence → HaveOwnNumbers (insert records entry.name entry)
HaveOwnNumbers-insert records n entry old distinct above q p f g hf hg same =
    cases (found_after_insert nat_list_cmp_total exact_bytes records entry.name entry q f hf) (found_after_insert nat_list_cmp_total exact_bytes records entry.name entry p g hg) where
      cases : ((q ≡ entry.name) × (f ≡ entry)) ⊎ ((same_name q entry.name ≡ false) × (get records q ≡ Some f)) → ((p ≡ entry.name) × (g ≡ entry)) ⊎ ((same_name p entry.name ≡ false) × (get records p ≡ Some g)) → q ≡ p
      cases (inl (a, b)) (inl (c, d)) = a ∙ sym c
      cases (inl (a, b)) (inr (c, d)) = let o = (old p g d).2 in let e = ap (λ (x : Entry). x.sequence) b in absurd (omega arith)
      cases (inr (a, b)) (inl (c, d)) = let o = (old q f b).2 in let e = ap (λ (x : Entry). x.sequence) d in absurd (omega arith)
      cases (inr (a, b)) (inr (c, d)) = distinct q p f g b d same

-- ---- elements of a list

pub among_is_contained : AmongIsContained
among_is_contained entry [] = (λ none. absurd none, λ none. not_in_none entry none)
among_is_contained entry (first ∷ es) = (
  λ among.
      ⊎_elim
      (λ same. subst (λ (e : Entry). Contains (first ∷ es) e) (sym same) (Contains-first first es))
      (λ later. Contains-more first es entry ((among_is_contained entry es).0 later))
      among,
  λ contained. ⊎_elim (λ same. inl (sym same)) (λ later. inr ((among_is_contained entry es).1 later)) (Contains-cons_cases first es entry contained),
)
