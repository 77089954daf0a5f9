-- The part of a table that is of one folder.
use Rattle.std.proofs.Common.{◌≡◌, ◌≢◌, ◌↔◌, ◌≤◌, ◌<◌, ◌+◌, ◌-◌, ℕ, zero, suc, Bool, true, false, true≢false, List, [], ◌∷◌, Contains, length, map, get_or, take, drop, refl, sym, ap, subst, ◌∙◌, ⊎_elim, arith}
use Rattle.std.specs.List.Sorted.{IsPartitionedBy, IsPartitionPoint}
use Rattle.std.specs.declared.cmp.Ordering.{Ordering}
use Rattle.std.specs.declared.cmp.Ordering.TheVariants.{Less, Equal, Greater}
use Rattle.std.specs.Ordering.{nat_cmp, is_lt, is_le, ordering_then}
use Rattle.std.specs.Cmp.Lexicographic.{slice_cmp}
use Rattle.std.proofs.lemmas.Bool.{cases_lt}
use Rattle.std.proofs.lemmas.Cmp.{tied_itself, nat_list_cmp_total}
use Rattle.std.proofs.lemmas.List.{length-take, length-drop, get_or-take, get_or-drop, get_or_default}
use Rattle.std.proofs.lemmas.Map.Lookups.{exact_bytes}
use Rattle.bep_facts.specs.Members.{Contains-image, Contains-from_image}
use Rattle.bep_facts.specs.Orders.{order_cases, Less_from_is_lt}
use Rattle.bep_model.specs.Tables.{Folder}
use Rattle.bep_model.specs.Settled.{key_cmp}
use Rattle.bep_tables.specs.declared.table.entry.TableEntry.{TableEntry}
use Rattle.bep_tables.specs.Listed.{key_at, listed, AreInOrder}
use Rattle.bep_audit.proofs.NameWalk.{Key, from_front}

-- ---- the order of folders

abbrev folder_cmp : Folder → Folder → Ordering
folder_cmp = slice_cmp nat_cmp

-- keys that don't fall have folders that don't
folders_too : (one later : Key) → key_cmp one later ≢ Greater → folder_cmp one.0 later.0 ≢ Greater
folders_too one later up falls = up (ap (λ (o : Ordering). ordering_then o (slice_cmp nat_cmp one.1 later.1)) falls)

neither : (o : Ordering) → is_lt o ≡ false → is_le o ≡ true → o ≡ Equal
neither Less not le = absurd (true≢false not)
neither Equal not le = refl
neither Greater not le = absurd (true≢false (sym le))

module _ (folder : Folder) where
  -- whether it is of a folder below this one, and whether of none above
  abbrev pub is_below : TableEntry → Bool
  is_below entry = is_lt (folder_cmp entry.folder.now folder)

  abbrev pub is_up_to : TableEntry → Bool
  is_up_to entry = is_le (folder_cmp entry.folder.now folder)

  below_back : (one later : Folder) → folder_cmp one later ≢ Greater → is_lt (folder_cmp later folder) ≡ true → is_lt (folder_cmp one folder) ≡ true
  below_back one later up less =
      ⊎_elim
      (λ under. ap is_lt (nat_list_cmp_total.trans one later folder under (Less_from_is_lt _ less)))
      (⊎_elim
      (λ same. subst (λ (f : Folder). is_lt (folder_cmp f folder) ≡ true) (sym (exact_bytes one later same)) less)
      (λ over. absurd (up over)))
      (order_cases (folder_cmp one later))

  up_to_back : (one later : Folder) → folder_cmp one later ≢ Greater → is_le (folder_cmp later folder) ≡ true → is_le (folder_cmp one folder) ≡ true
  up_to_back one later up le =
      ⊎_elim
      (λ less. ap is_le (Less_from_is_lt _ (below_back one later up (ap is_lt less))))
      (⊎_elim
      (λ same. subst (λ (f : Folder). is_le (folder_cmp one f) ≡ true) (exact_bytes later folder same) (not_over (folder_cmp one later) up))
      (λ over. absurd (true≢false (sym le ∙ ap is_le over))))
      (order_cases (folder_cmp later folder))
    where
      not_over : (o : Ordering) → o ≢ Greater → is_le o ≡ true
      not_over Less not = refl
      not_over Equal not = refl
      not_over Greater not = absurd (not refl)

-- what holds of an entry holds of those before it
parted : (p : TableEntry → Bool) → ((one later : TableEntry) → key_cmp (key_at (listed one)) (key_at (listed later)) ≢ Greater → p later ≡ true → p one ≡ true) →
    (xs : List TableEntry) → AreInOrder (map listed xs) → (i j : ℕ) (d : TableEntry) → i ≤ j → j < length xs → p (get_or xs j d) ≡ true → p (get_or xs i d) ≡ true
parted p back [] order i j d low within is = absurd (omega (arith, within))
parted p back (x ∷ xs) order zero zero d low within is = is
parted p back (x ∷ xs) order zero (suc j) d low within is =
    let inside : j < length xs = omega (arith, within) in
    let later = get_or xs j d in
    back x later (order.0 (listed later) (Contains-image listed xs later (j, inside, get_or_default xs j later d inside))) is
parted p back (x ∷ xs) order (suc i) zero d low within is = absurd (omega (arith, low))
parted p back (x ∷ xs) order (suc i) (suc j) d low within is = parted p back xs order.1 i j d (omega (arith, low)) (omega (arith, within)) is

module _ (folder : Folder) (xs : List TableEntry) (order : AreInOrder (map listed xs)) where
  pub below_parts : IsPartitionedBy (is_below folder) xs
  below_parts = parted (is_below folder) (λ one later up. below_back folder one.folder.now later.folder.now (folders_too (key_at (listed one)) (key_at (listed later)) up)) xs order

  pub up_to_parts : IsPartitionedBy (is_up_to folder) xs
  up_to_parts = parted (is_up_to folder) (λ one later up. up_to_back folder one.folder.now later.folder.now (folders_too (key_at (listed one)) (key_at (listed later)) up)) xs order

-- the front of what is in order is in order
pub order_front : (n : ℕ) (xs : List TableEntry) → AreInOrder (map listed xs) → AreInOrder (map listed (take n xs))
order_front zero xs order = tt
order_front (suc n) [] order = tt
order_front (suc n) (x ∷ xs) order = (
  λ later member.
      let found = Contains-from_image listed (take n xs) later member in
      order.0 later (subst (Contains (map listed xs)) found.2 (Contains-image listed xs found.0 (from_front xs n found.0 found.1))),
  order_front n xs order.1,
)

-- ---- what stands between two places

module _ {X : Type 0} (p q : X → Bool) (xs : List X) (from count : ℕ) (first : IsPartitionPoint (λ x. p x ≡ true) (λ x. p x ≡ false) xs from) (last : IsPartitionPoint (λ x. q x ≡ true) (λ x. q x ≡ false) (drop from xs) count) where
  abbrev Found : List X
  Found = take count (drop from xs)

  is_between : (x : X) → Contains Found x → Contains xs x × ((p x ≡ false) × (q x ≡ true))
  is_between x member =
      let k = member.0 in
      let within = member.1 in
      let is = member.2 in
      let few = length-take count (drop from xs) in
      let rest = length-drop from xs in
      let inside : k < count = omega (arith, within) in
      let here : from + k < length xs = omega arith in
      let same : get_or xs (from + k) x ≡ x = sym (get_or-take count (drop from xs) k x inside ∙ get_or-drop from xs k x) ∙ is in
      let past : p x ≡ false = subst (λ y. p y ≡ false) same (first.1 (from + k) x (omega arith) here) in
      let before : q x ≡ true = subst (λ y. q y ≡ true) (get_or-drop from xs k x ∙ same) (last.0 k x (omega arith) inside) in
      ((from + k, here, same), (past, before))

  stands_there : (x : X) (k : ℕ) → k < length xs → get_or xs k x ≡ x → p x ≡ false → q x ≡ true → Contains Found x
  stands_there x k within is past before =
      ⊎_elim
      (λ early. absurd (true≢false (sym (subst (λ y. p y ≡ true) is (first.0 k x (omega arith) early)) ∙ past)))
      (λ late.
      let at_m : from + (k - from) ≡ k = omega arith in
      let there : get_or (drop from xs) (k - from) x ≡ x = get_or-drop from xs (k - from) x ∙ ap (λ n. get_or xs n x) at_m ∙ is in
      let rest = length-drop from xs in
      let few = length-take count (drop from xs) in
      ⊎_elim
      (λ inside. (k - from, omega arith, get_or-take count (drop from xs) (k - from) x inside ∙ there))
      (λ outside. absurd (true≢false (sym before ∙ subst (λ y. q y ≡ false) there (last.1 (k - from) x outside (omega arith)))))
      (cases_lt (k - from) count))
      (cases_lt k from)

  pub between : (x : X) → Contains Found x ↔ (Contains xs x × ((p x ≡ false) × (q x ≡ true)))
  between x = (is_between x, λ all. stands_there x all.0.0 all.0.1 all.0.2 all.1.0 all.1.1)

-- what stands between those of lesser folders and those of greater ones is of the folder, and nothing else is
pub found_in : (folder : Folder) (xs : List TableEntry) (from count : ℕ) →
    IsPartitionPoint (λ x. is_below folder x ≡ true) (λ x. is_below folder x ≡ false) xs from →
    IsPartitionPoint (λ x. is_up_to folder x ≡ true) (λ x. is_up_to folder x ≡ false) (drop from xs) count →
    (one : TableEntry) → Contains (take count (drop from xs)) one ↔ (Contains xs one × (one.folder.now ≡ folder))
found_in folder xs from count first last one =
    let stands = between (is_below folder) (is_up_to folder) xs from count first last one in (
      λ member.
          let there = stands.0 member in
          (there.0, exact_bytes one.folder.now folder (neither (folder_cmp one.folder.now folder) there.1.0 there.1.1)),
      λ both.
          let tied : folder_cmp one.folder.now folder ≡ Equal = subst (λ (f : Folder). folder_cmp one.folder.now f ≡ Equal) both.1 (tied_itself nat_list_cmp_total one.folder.now) in
          stands.1 (both.0, (ap is_lt tied, ap is_le tied)),
    )
