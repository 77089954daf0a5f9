-- A map that has the last folder and name first, from the first to the last.
use Rattle.std.proofs.Common.{◌≡◌, ◌∙◌, ℕ, Bool, true, false, cond, List, [], ◌∷◌, ◌++◌, Option, None, Some, Contains, refl, sym, ap, subst, ⊎_elim}
use Rattle.std.specs.declared.cmp.Ordering.TheVariants.{Less}
use Rattle.std.specs.Ordering.{is_eq}
use Rattle.std.specs.List.{All, AllByRecursion}
use Rattle.std.specs.List.Sorted.{IsStrictlySortedBy}
use Rattle.std.specs.Map.{lookup, keys_of}
use Rattle.std.proofs.lemmas.Map.Keys.{sorted_head, sorted_tail}
use Rattle.std.proofs.lemmas.List.Elements.{All-contains, Contains-append_cases}
use Rattle.bep_facts.specs.Members.{not_in_none, Contains-first, Contains-more, Contains-one}
use Rattle.bep_model.specs.Tables.{Folder, FileName}
use Rattle.bep_model.specs.Settled.{key_cmp}
use Rattle.bep_tables.specs.declared.table.entry.TableEntry.{TableEntry}
use Rattle.bep_tables.specs.declared.table.falling.Falling.{Falling}
use Rattle.bep_tables.specs.inner.TableOrder.{entry_cmp, falling_cmp}
use Rattle.bep_tables.specs.inner.Groups.{key_in, place_of, rising}
use Rattle.bep_tables.proofs.GroupFacts.{same_key, tied_key}

-- the pair that comes last in the map is the first that rises
pub rising_behind : (pairs : List (Falling × ℕ)) (last : Falling × ℕ) → rising (pairs ++ last ∷ []) ≡ (last.0.entry, last.1) ∷ rising pairs
rising_behind [] last = refl
rising_behind (pair ∷ more) last = ap (λ l. l ++ (pair.0.entry, pair.1) ∷ []) (rising_behind more last)

-- ---- folders and names

flips : (key other : Folder × FileName) → is_eq (key_cmp key other) ≡ is_eq (key_cmp other key)
flips key other = cases (is_eq (key_cmp key other)) (is_eq (key_cmp other key)) refl refl
  where
    cases : (a b : Bool) → is_eq (key_cmp key other) ≡ a → is_eq (key_cmp other key) ≡ b → a ≡ b
    cases true true one two = refl
    cases false false one two = refl
    cases true false one two = sym (tied_key other key (sym (same_key key other one))) ∙ two
    cases false true one two = sym one ∙ tied_key key other (sym (same_key other key two))

-- ---- order

keys_behind : (pairs : List (TableEntry × ℕ)) (last : TableEntry × ℕ) → keys_of (pairs ++ last ∷ []) ≡ keys_of pairs ++ last.0 ∷ []
keys_behind [] last = refl
keys_behind (pair ∷ more) last = ap (λ l. pair.0 ∷ l) (keys_behind more last)

all_behind : (P : TableEntry → Type 0) (keys : List TableEntry) (last : TableEntry) → AllByRecursion P keys → P last → AllByRecursion P (keys ++ last ∷ [])
all_behind P [] last all holds = (holds, tt)
all_behind P (key ∷ more) last all holds = (all.0, all_behind P more last all.1 holds)

all_rising : (P : TableEntry → Type 0) (pairs : List (Falling × ℕ)) → AllByRecursion (λ (key : Falling). P key.entry) (keys_of pairs) → AllByRecursion P (keys_of (rising pairs))
all_rising P [] all = tt
all_rising P (pair ∷ more) all =
    subst (AllByRecursion P) (sym (keys_behind (rising more) (pair.0.entry, pair.1)))
    (all_behind P (keys_of (rising more)) pair.0.entry (all_rising P more all.1) all.0)

sorted_behind : (keys : List TableEntry) (last : TableEntry) → IsStrictlySortedBy entry_cmp keys → AllByRecursion (λ key. entry_cmp key last ≡ Less) keys → IsStrictlySortedBy entry_cmp (keys ++ last ∷ [])
unfolding IsStrictlySortedBy
sorted_behind [] last sorted below = (tt, tt)
sorted_behind (key ∷ more) last sorted below = (all_behind (λ other. entry_cmp key other ≡ Less) more last sorted.0 below.0, sorted_behind more last sorted.1 below.1)

pub sorted_rising : (pairs : List (Falling × ℕ)) → IsStrictlySortedBy falling_cmp (keys_of pairs) → IsStrictlySortedBy entry_cmp (keys_of (rising pairs))
unfolding IsStrictlySortedBy
sorted_rising [] sorted = tt
sorted_rising (pair ∷ more) sorted =
    subst (IsStrictlySortedBy entry_cmp) (sym (keys_behind (rising more) (pair.0.entry, pair.1)))
    (sorted_behind (keys_of (rising more)) pair.0.entry (sorted_rising more sorted.1) (all_rising (λ key. entry_cmp key pair.0.entry ≡ Less) more sorted.0))

-- ---- what is found

abbrev pub place_in : List (Falling × ℕ) → Folder × FileName → Option ℕ
place_in pairs key = lookup (λ (one : Falling). is_eq (key_cmp (key_in one.entry) key)) pairs

found_before : (test : TableEntry → Bool) (pairs : List (TableEntry × ℕ)) (last : TableEntry × ℕ) → test last.0 ≡ false → lookup test (pairs ++ last ∷ []) ≡ lookup test pairs
found_before test [] last fails = ap (λ b. cond b (Some last.1) None) fails
found_before test (pair ∷ more) last fails = ap (cond (test pair.0) (Some pair.1)) (found_before test more last fails)

found_last : (test : TableEntry → Bool) (pairs : List (TableEntry × ℕ)) (last : TableEntry × ℕ) → lookup test pairs ≡ None → test last.0 ≡ true → lookup test (pairs ++ last ∷ []) ≡ Some last.1
found_last test [] last none passes = ap (λ b. cond b (Some last.1) None) passes
found_last test (pair ∷ more) last none passes = cases (test pair.0) refl none (found_last test more last)
  where
    cases : (b : Bool) → test pair.0 ≡ b → cond b (Some pair.1) (lookup test more) ≡ None → (lookup test more ≡ None → test last.0 ≡ true → lookup test (more ++ last ∷ []) ≡ Some last.1) →
        cond b (Some pair.1) (lookup test (more ++ last ∷ [])) ≡ Some last.1
    cases true is found later = absurd (cc)
    cases false is found later = later found passes

none_below : (key : Folder × FileName) (pairs : List (Falling × ℕ)) → AllByRecursion (λ (one : Falling). key_cmp (key_in one.entry) key ≡ Less) (keys_of pairs) → place_in pairs key ≡ None
none_below key [] below = refl
none_below key (pair ∷ more) below = ap (λ b. cond b (Some pair.1) (place_in more key)) (ap is_eq below.0) ∙ none_below key more below.1

pub same_place : (pairs : List (Falling × ℕ)) → IsStrictlySortedBy falling_cmp (keys_of pairs) → (key : Folder × FileName) → place_of (rising pairs) key ≡ place_in pairs key
same_place [] sorted key = refl
same_place (pair ∷ more) sorted key = cases (is_eq (key_cmp (key_in pair.0.entry) key)) refl (same_place more (sorted_tail falling_cmp pair.0 (keys_of more) sorted) key)
  where
    cases : (b : Bool) → is_eq (key_cmp (key_in pair.0.entry) key) ≡ b → place_of (rising more) key ≡ place_in more key →
        place_of (rising more ++ (pair.0.entry, pair.1) ∷ []) key ≡ cond b (Some pair.1) (place_in more key)
    cases false apart later =
        found_before (λ (one : TableEntry). is_eq (key_cmp key (key_in one))) (rising more) (pair.0.entry, pair.1) (flips key (key_in pair.0.entry) ∙ apart) ∙ later
    cases true same later =
        let head = sorted_head falling_cmp pair.0 (keys_of more) sorted in
        let below = subst (λ (k : Folder × FileName). AllByRecursion (λ (one : Falling). key_cmp (key_in one.entry) k ≡ Less) (keys_of more)) (same_key (key_in pair.0.entry) key same) head in
        found_last (λ (one : TableEntry). is_eq (key_cmp key (key_in one))) (rising more) (pair.0.entry, pair.1) (later ∙ none_below key more below) (flips key (key_in pair.0.entry) ∙ same)

member_of : (pairs : List (Falling × ℕ)) (pair : TableEntry × ℕ) → Contains (rising pairs) pair → (one : Falling × ℕ) × Contains pairs one × ((one.0.entry, one.1) ≡ pair)
member_of [] pair member = absurd (not_in_none pair member)
member_of (first ∷ more) pair member =
    ⊎_elim
    (λ there. let found = member_of more pair there in (found.0, Contains-more first more found.0 found.1, found.2))
    (λ last. (first, Contains-first first more, Contains-one (first.0.entry, first.1) pair last))
    (Contains-append_cases (rising more) ((first.0.entry, first.1) ∷ []) pair member)

-- each pair is found, if each is in the map
pub found_rising : (pairs : List (Falling × ℕ)) → IsStrictlySortedBy falling_cmp (keys_of pairs) → All (λ (one : Falling × ℕ). place_in pairs (key_in one.0.entry) ≡ Some one.1) pairs →
    (pair : TableEntry × ℕ) → Contains (rising pairs) pair → place_of (rising pairs) (key_in pair.0) ≡ Some pair.1
found_rising pairs sorted found pair member =
    let from = member_of pairs pair member in
    let is = All-contains (λ (one : Falling × ℕ). place_in pairs (key_in one.0.entry) ≡ Some one.1) pairs from.0 found from.1 in
    subst (λ (one : TableEntry × ℕ). place_of (rising pairs) (key_in one.0) ≡ Some one.1) from.2 (same_place pairs sorted (key_in from.0.0.entry) ∙ is)

-- what is found after an entry was put into the map
pub put_rising : (old new : List (Falling × ℕ)) (entry : TableEntry) (place : ℕ) → IsStrictlySortedBy falling_cmp (keys_of old) → IsStrictlySortedBy falling_cmp (keys_of new) →
    ((key : Folder × FileName) → place_in new key ≡ cond (is_eq (key_cmp key (key_in entry))) (Some place) (place_in old key)) →
    (key : Folder × FileName) → place_of (rising new) key ≡ cond (is_eq (key_cmp (key_in entry) key)) (Some place) (place_of (rising old) key)
put_rising old new entry place was now put key =
    same_place new now key
    ∙ put key
    ∙ ap (λ b. cond b (Some place) (place_in old key)) (flips key (key_in entry))
    ∙ ap (cond (is_eq (key_cmp (key_in entry) key)) (Some place)) (sym (same_place old was key))
