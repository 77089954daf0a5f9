-- The entries of groups, by rising folders and names, are a cut grouped.
use Rattle.std.proofs.Common.{◌≡◌, ◌≢◌, ℕ, Bool, true, false, cond, List, [], ◌∷◌, ◌++◌, Option, Some, None, map, Contains, refl, sym, ap, subst, ◌∙◌, ⊎_elim}
use Rattle.std.specs.declared.cmp.Ordering.TheVariants.{Less}
use Rattle.std.specs.Ordering.{is_eq}
use Rattle.std.specs.BTreeMap.{is_at}
use Rattle.std.specs.Map.{lookup, keys_of}
use Rattle.std.specs.List.Sorted.{IsStrictlySortedBy}
use Rattle.std.proofs.lemmas.List.{append-nil}
use Rattle.std.proofs.lemmas.List.Elements.{filter-append, Contains-append_cases}
use Rattle.std.proofs.lemmas.Map.Keys.{sorted_head, sorted_tail}
use Rattle.std.proofs.lemmas.Option.{none-some}
use Rattle.bep_facts.specs.Members.{not_in_none, Contains-first, Contains-more, Contains-cons_cases, Contains-from_flat_map, holds_of_key}
use Rattle.bep_facts.specs.Orders.{texts_total, not_less_itself}
use Rattle.bep_model.specs.Tables.{Folder, FileName}
use Rattle.bep_model.specs.Settled.{key_cmp}
use Rattle.bep_tables.specs.declared.table.entry.TableEntry.{TableEntry}
use Rattle.bep_tables.specs.Kept.{kept, from_kept}
use Rattle.bep_tables.specs.Listed.{Listed, key_at, listed, is_of, group_of, AreInOrder, IsGrouped}
use Rattle.bep_tables.specs.inner.TableOrder.{entry_cmp}
use Rattle.bep_tables.specs.inner.Groups.{in_order_of, key_in, place_of}
use Rattle.bep_tables.proofs.GroupFacts.{same_key, tied_key}

-- ---- lists

none_there : {X : Type 0} (xs : List X) → ((x : X) → ¬ Contains xs x) → xs ≡ []
none_there [] none = refl
none_there (x ∷ xs) none = absurd (none x (Contains-first x xs))

-- what a group has is of its folder and name
of_key : (key : Folder × FileName) (all : List Listed) (one : Listed) → Contains (group_of key all) one → key_at one ≡ key
of_key key all one member = same_key (key_at one) key (from_kept (is_of key) all one member).1

-- ---- order

one_key_in_order : (key : Folder × FileName) (list : List Listed) → ((one : Listed) → Contains list one → key_at one ≡ key) → AreInOrder list
one_key_in_order key [] same = tt
one_key_in_order key (one ∷ more) same = (
  λ later member greater.
      let e : key_at one ≡ key_at later = same one (Contains-first one more) ∙ sym (same later (Contains-more one more later member)) in
      let tied = tied_key (key_at one) (key_at later) e in
      let not = ap is_eq greater in cc,
  one_key_in_order key more (λ other member. same other (Contains-more one more other member)),
)

ordered_append : (front back : List Listed) → AreInOrder front → AreInOrder back →
    ((one later : Listed) → Contains front one → Contains back later → key_cmp (key_at one) (key_at later) ≡ Less) → AreInOrder (front ++ back)
ordered_append [] back first second apart = second
ordered_append (one ∷ more) back first second apart = (
  λ later member.
      ⊎_elim
      (λ there. first.0 later there)
      (λ behind greater. let less = apart one later (Contains-first one more) behind in cc)
      (Contains-append_cases more back later member),
  ordered_append more back first.1 second (λ other later member behind. apart other later (Contains-more one more other member) behind),
)

-- a group of a folder and name is its own group, and has nothing of another
group_twice : (key : Folder × FileName) (all : List Listed) → group_of key (group_of key all) ≡ group_of key all
group_twice key [] = refl
group_twice key (one ∷ more) = cases (is_of key one) refl (group_twice key more) where
  cases : (b : Bool) → is_of key one ≡ b → group_of key (group_of key more) ≡ group_of key more →
      group_of key (cond b (one ∷ group_of key more) (group_of key more)) ≡ cond b (one ∷ group_of key more) (group_of key more)
  cases true passes same = ap (λ b. cond b (one ∷ group_of key (group_of key more)) (group_of key (group_of key more))) passes ∙ ap (λ l. one ∷ l) same
  cases false fails same = same

group_other : (key other : Folder × FileName) (all : List Listed) → other ≢ key → group_of key (group_of other all) ≡ []
group_other key other all apart = none_there (group_of key (group_of other all)) (λ one member.
    let found = from_kept (is_of key) (group_of other all) one member in
    apart (sym (of_key other all one found.0) ∙ same_key (key_at one) key found.1))

-- the pair whose entry passes
pub pair_found : (test : TableEntry → Bool) (pairs : List (TableEntry × ℕ)) (place : ℕ) → lookup test pairs ≡ Some place → (pair : TableEntry × ℕ) × Contains pairs pair × (test pair.0 ≡ true)
pair_found test [] place is = absurd (none-some place is)
pair_found test (pair ∷ more) place is = cases (test pair.0) refl (pair_found test more place) is where
  cases : (b : Bool) → test pair.0 ≡ b → (lookup test more ≡ Some place → (one : TableEntry × ℕ) × Contains more one × (test one.0 ≡ true)) →
      cond b (Some pair.1) (lookup test more) ≡ Some place → (one : TableEntry × ℕ) × Contains (pair ∷ more) one × (test one.0 ≡ true)
  cases true passes later e = (pair, Contains-first pair more, passes)
  cases false fails later e = let found = later e in (found.0, Contains-more pair more found.0 found.1, found.2)

-- the first pair's folder and name are below those of the others
pub below_rest : (pair : TableEntry × ℕ) (more : List (TableEntry × ℕ)) → IsStrictlySortedBy entry_cmp (keys_of (pair ∷ more)) → (other : TableEntry × ℕ) → Contains more other → key_cmp (key_in pair.0) (key_in other.0) ≡ Less
below_rest pair more sorted other member =
    holds_of_key (λ (one : TableEntry). entry_cmp pair.0 one ≡ Less) (λ (p : TableEntry × ℕ). p.0) more other (sorted_head entry_cmp pair.0 (keys_of more) sorted) member

module _ (all : List Listed) (places : List (TableEntry × ℕ)) where
  -- what stands in the groups of these pairs is of the folder and name of one of them
  of_pair : (pairs : List (TableEntry × ℕ)) → (one : Listed) → Contains (in_order_of all pairs) one → (pair : TableEntry × ℕ) × Contains pairs pair × (key_at one ≡ key_in pair.0)
  of_pair pairs one member =
      let from = Contains-from_flat_map (λ (pair : TableEntry × ℕ). group_of (key_in pair.0) all) pairs one member in
      (from.0, from.1, of_key (key_in from.0.0) all one from.2)

  entries_in_order : (pairs : List (TableEntry × ℕ)) → IsStrictlySortedBy entry_cmp (keys_of pairs) → AreInOrder (in_order_of all pairs)
  entries_in_order [] sorted = tt
  entries_in_order (pair ∷ more) sorted =
      let same : (one : Listed) → Contains (group_of (key_in pair.0) all) one → key_at one ≡ key_in pair.0 = of_key (key_in pair.0) all in
      ordered_append (group_of (key_in pair.0) all) (in_order_of all more)
      (one_key_in_order (key_in pair.0) (group_of (key_in pair.0) all) same)
      (entries_in_order more (sorted_tail entry_cmp pair.0 (keys_of more) sorted))
      (λ one later member behind.
      let from = of_pair more later behind in
      let less = below_rest pair more sorted from.0 from.1 in
      subst (λ k. key_cmp k (key_at later) ≡ Less) (sym (same one member)) (subst (λ k. key_cmp (key_in pair.0) k ≡ Less) (sym from.2) less))

  -- a folder and name that no pair has isn't there
  missed : (key : Folder × FileName) (pairs : List (TableEntry × ℕ)) → ((pair : TableEntry × ℕ) → Contains pairs pair → key_in pair.0 ≢ key) → group_of key (in_order_of all pairs) ≡ []
  missed key pairs apart = none_there (group_of key (in_order_of all pairs)) (λ one member.
      let there = from_kept (is_of key) (in_order_of all pairs) one member in
      let from = of_pair pairs one there.0 in
      apart from.0 from.1 (sym from.2 ∙ same_key (key_at one) key there.1))

  -- one that a pair has is there as it was
  hit : (pairs : List (TableEntry × ℕ)) → IsStrictlySortedBy entry_cmp (keys_of pairs) → (pair : TableEntry × ℕ) → Contains pairs pair → group_of (key_in pair.0) (in_order_of all pairs) ≡ group_of (key_in pair.0) all
  hit [] sorted pair member = absurd (not_in_none pair member)
  hit (first ∷ more) sorted pair member =
      filter-append (is_of (key_in pair.0)) (group_of (key_in first.0) all) (in_order_of all more)
      ∙ ⊎_elim at_first (λ there. behind there (hit more (sorted_tail entry_cmp first.0 (keys_of more) sorted) pair there)) (Contains-cons_cases first more pair member)
    where
      at_first : first ≡ pair → group_of (key_in pair.0) (group_of (key_in first.0) all) ++ group_of (key_in pair.0) (in_order_of all more) ≡ group_of (key_in pair.0) all
      at_first same =
          let gone : group_of (key_in first.0) (in_order_of all more) ≡ [] = missed (key_in first.0) more (λ other there equal.
          let less = subst (λ k. key_cmp (key_in first.0) k ≡ Less) equal (below_rest first more sorted other there) in
          not_less_itself texts_total (key_in first.0) less) in
          subst (λ (p : TableEntry × ℕ). group_of (key_in p.0) (group_of (key_in first.0) all) ++ group_of (key_in p.0) (in_order_of all more) ≡ group_of (key_in p.0) all) same
          (ap (λ (l : List Listed). l ++ group_of (key_in first.0) (in_order_of all more)) (group_twice (key_in first.0) all)
          ∙ ap (λ (l : List Listed). group_of (key_in first.0) all ++ l) gone
          ∙ append-nil (group_of (key_in first.0) all))

      behind : Contains more pair → group_of (key_in pair.0) (in_order_of all more) ≡ group_of (key_in pair.0) all → group_of (key_in pair.0) (group_of (key_in first.0) all) ++ group_of (key_in pair.0) (in_order_of all more) ≡ group_of (key_in pair.0) all
      behind there later =
          let apart : key_in first.0 ≢ key_in pair.0 = λ equal.
          let less = subst (λ k. key_cmp k (key_in pair.0) ≡ Less) equal (below_rest first more sorted pair there) in
          not_less_itself texts_total (key_in pair.0) less in
          ap (λ (l : List Listed). l ++ group_of (key_in pair.0) (in_order_of all more)) (group_other (key_in pair.0) (key_in first.0) all apart)
          ∙ later

  module _ (sorted : IsStrictlySortedBy entry_cmp (keys_of places)) (absent : (key : Folder × FileName) → place_of places key ≡ None → group_of key all ≡ []) (key : Folder × FileName) where
    -- what isn't among the entries isn't in the groups
    none_kept : group_of key all ≡ [] → group_of key (in_order_of all places) ≡ []
    none_kept none = none_there (group_of key (in_order_of all places)) (λ one member.
        let there = from_kept (is_of key) (in_order_of all places) one member in
        let from = Contains-from_flat_map (λ (pair : TableEntry × ℕ). group_of (key_in pair.0) all) places one there.0 in
        let was = kept (is_of key) all one (from_kept (is_of (key_in from.0.0)) all one from.2).0 there.1 in
        not_in_none one (subst (λ l. Contains l one) none was))

    of_place : (o : Option ℕ) → place_of places key ≡ o → group_of key (in_order_of all places) ≡ group_of key all
    of_place (Some place) is =
        let pair = pair_found (is_at (λ (one : TableEntry). key_cmp key (key_in one))) places place is in
        let equal : key_in pair.0.0 ≡ key = sym (same_key key (key_in pair.0.0) pair.2) in
        subst (λ k. group_of k (in_order_of all places) ≡ group_of k all) equal (hit places sorted pair.0 pair.1)
    of_place None is = none_kept (absent key is) ∙ sym (absent key is)

    same_groups : group_of key (in_order_of all places) ≡ group_of key all
    same_groups = of_place (place_of places key) refl

-- the entries of the folders and names of these pairs, which rise and are all that there are, are these entries grouped
pub regrouped : (all : List Listed) (table : List TableEntry) (places : List (TableEntry × ℕ)) → IsStrictlySortedBy entry_cmp (keys_of places) →
    ((key : Folder × FileName) → place_of places key ≡ None → group_of key all ≡ []) → map listed table ≡ in_order_of all places → IsGrouped all table
regrouped all table places sorted absent is = record {
  in_order = subst AreInOrder (sym is) (entries_in_order all places places sorted);
  groups = λ key. ap (group_of key) is ∙ same_groups all places sorted absent key;
}
