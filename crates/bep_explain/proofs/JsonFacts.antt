-- An explanation is written a failure at a time.
use Rattle.std.proofs.Common.{◌≡◌, ◌<◌, ◌≤◌, ◌+◌, ◌↔◌, ◌&&◌, ℕ, List, [], ◌∷◌, ◌++◌, map, drop, length, refl, sym, ap, ap₂, ◌∙◌, subst, append-nil}
use lib.ListN.{get_or}
use Rattle.std.proofs.lemmas.List.{drop_all}
use Rattle.json.specs.Written.{Written}
use Rattle.serde_json.specs.Data.{Data}
use Rattle.serde_json.specs.View.{items_of}
use Rattle.bep_facts.specs.Places.{rest_at}
use Rattle.bep_json.specs.Added.{Adds, AddsItems}
use Rattle.bep_json.proofs.AddedFacts.{item_more}
use Rattle.bep_explain.specs.Annotated.{Annotated, failures_in, is_none}
use Rattle.bep_explain.specs.FirmTold.{LooseAnnotated, is_tight, loosenings_in}
use Rattle.bep_explain.specs.inner.Added.{no_failure, no_loose}

-- ---- a list of what was found, whose items are told one after another
-- those that are left, each told, stand before the items that come next: so do all, where these do
abbrev pub TellsAll : {F T : Type 0} → (T → Data) → (T → F) → List F → List F → Written → Written → Type 0
TellsAll {T = T} tree shown left all now start =
    (end : Written) (next : List Data) (told : List T) → map shown told ≡ left → AddsItems (items_of (map tree told ++ next)) now end →
    (whole : List T) × (map shown whole ≡ all) × AddsItems (items_of (map tree whole ++ next)) start end

module _ {F T S : Type 0} (tree : T → Data) (shown : T → F) (shows : S → F) (all : List S) where
  -- one more of them is told
  pub tells_one : (place : ℕ) (found : S) (one : T) (start now new : Written) → place < length all → found ≡ get_or all place found → shown one ≡ shows found → Adds (tree one) now new →
      TellsAll tree shown (map shows (drop place all)) (map shows all) now start → TellsAll tree shown (map shows (drop (place + 1) all)) (map shows all) new start
  tells_one place found one start now new below is same adds had = λ end next told e rest.
      had end next (one ∷ told) (ap₂ (λ x xs. x ∷ xs) same e ∙ ap (map shows) (sym (rest_at all place found below is))) (item_more adds rest)

  -- none is left
  pub tells_all : (place : ℕ) (start now : Written) → length all ≤ place → TellsAll tree shown (map shows (drop place all)) (map shows all) now start →
      (end : Written) (next : List Data) → AddsItems (items_of next) now end → (whole : List T) × (map shown whole ≡ map shows all) × AddsItems (items_of (map tree whole ++ next)) start end
  tells_all place start now beyond had end next rest = had end next [] (ap (map shows) (sym (drop_all place all beyond))) rest

-- ---- the whole
pub nothing_next : (ds : List Data) {a b : Written} → AddsItems (items_of (ds ++ [])) a b → AddsItems (items_of ds) a b
nothing_next ds {a} {b} = subst (λ l. AddsItems (items_of l) a b) (append-nil ds)

pub none_told : (told : List Annotated) → no_failure (failures_in told) ≡ is_none told
none_told [] = refl
none_told (one ∷ more) = refl

pub none_loose : (told : List LooseAnnotated) → no_loose (loosenings_in told) ≡ is_tight told
none_loose [] = refl
none_loose (one ∷ more) = refl

pub none_shown : {A B : Type 0} (shown : A → B) (P : Type 0) (xs : List A) → ((xs ≡ []) ↔ P) → ((map shown xs ≡ []) ↔ P)
none_shown shown P [] same = (λ e. same.0 refl, λ p. refl)
none_shown shown P (x ∷ xs) same = (λ e. absurd cc, λ p. absurd (some (same.1 p)))
  where
    some : x ∷ xs ≡ [] → ⊥
    some e = cc
