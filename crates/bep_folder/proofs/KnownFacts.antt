-- The candidates for a name, in the order of their devices.
use Rattle.std.proofs.Common.{◌≡◌, ◌↔◌, ◌<◌, ◌-◌, ◌∙◌, ℕ, zero, suc, List, [], ◌∷◌, ◌++◌, Option, Some, None, Contains, IfSome, IfNone, length, take, drop, slice_index, refl, sym, ap, subst, ⊎_elim, append_assoc, arith}
use Rattle.std.specs.Prelude.{map}
use Rattle.std.specs.Ordering.{nat_cmp}
use Rattle.std.specs.declared.cmp.Ordering.TheVariants.{Less}
use Rattle.std.specs.Borrow.{Bor}
use Rattle.std.specs.Cmp.{nat_cmp_total}
use Rattle.std.specs.List.{AllByRecursion}
use Rattle.std.specs.List.Sorted.{IsStrictlyIncreasing, IsStrictlySortedBy}
use Rattle.std.specs.Cmp.{nat_cmp_is}
use Rattle.std.proofs.lemmas.List.{take-append-drop, take_all, length-drop}
use Rattle.std.proofs.lemmas.Grind.{flat_map-append}
use Rattle.std.proofs.lemmas.Map.Keys.{sorted_from_strictly_increasing, IsStrictlyIncreasing-from_sorted}
use Rattle.std.proofs.lemmas.List.Elements.{Contains-append_left, Contains-append_right, Contains-append_cases}
use Rattle.std.proofs.lemmas.Option.{none-some}
use Rattle.std.specs.Option.{option_copied}
use Rattle.bep_facts.specs.Members.{not_in_none, Contains-one}
use Rattle.bep_facts.specs.Rising.{below_all}
use Rattle.bep_record.specs.declared.entry.Entry.{Entry}
use Rattle.bep_index.specs.Listing.{Listing}
use Rattle.bep_choice.specs.Choice.{Candidate, candidates_of, SameSet, IsChoice}
use Rattle.bep_model.specs.Tables.{Device, FileName}
use Rattle.bep_model.specs.Winner.{beside}
use Rattle.bep_machine.specs.Replica.{ByDevice, Replica, viewed_by, candidates, own_at, Chooses}
use Rattle.bep_machine.specs.Pull.{ChoosesNone}
use Rattle.bep_folder.specs.Held.{Held}
use Rattle.bep_folder.specs.inner.Chosen.{AreNamed, IsOf, IsOwn, record_in, viewed_among, known_by}

-- ---- a device at its place among the others

all_with : (P : ℕ → Type 0) (x : ℕ) (xs : List ℕ) (place : ℕ) → P x → AllByRecursion P xs → AllByRecursion P (take place xs ++ x ∷ drop place xs)
all_with P x [] zero here all = (here, tt)
all_with P x [] (suc place) here all = (here, tt)
all_with P x (y ∷ ys) zero here all = (here, all)
all_with P x (y ∷ ys) (suc place) here all = (all.0, all_with P x ys place here all.1)

sorted_with : (x : ℕ) (xs : List ℕ) (place : ℕ) → IsStrictlySortedBy nat_cmp xs → ((k : ℕ) → k < place → k < length xs → slice_index xs k < x) → (place < length xs → x < slice_index xs place) → IsStrictlySortedBy nat_cmp (take place xs ++ x ∷ drop place xs)
unfolding IsStrictlySortedBy
sorted_with x [] zero rise below above = (tt, tt)
sorted_with x [] (suc place) rise below above = (tt, tt)
sorted_with x (y ∷ ys) zero rise below above =
    let less = sym (nat_cmp_is x y Less (above (omega arith))) in
    ((less, below_all nat_cmp_total x y ys less rise.0), rise)
sorted_with x (y ∷ ys) (suc place) rise below above = (
  all_with (λ k. nat_cmp y k ≡ Less) x ys place (sym (nat_cmp_is y x Less (below 0 (omega arith) (omega arith)))) rise.0,
  sorted_with x ys place rise.1 (λ k lower within. below (suc k) (omega arith) (omega arith)) (λ within. above (omega arith)),
)

-- the device comes behind those below it
pub increasing_with : (x : ℕ) (xs : List ℕ) (place : ℕ) → IsStrictlyIncreasing xs → ((k : ℕ) → k < place → slice_index xs k < x) → (place < length xs → x < slice_index xs place) → IsStrictlyIncreasing (take place xs ++ x ∷ drop place xs)
increasing_with x xs place rise below above =
    IsStrictlyIncreasing-from_sorted _ (sorted_with x xs place (sorted_from_strictly_increasing xs rise) (λ k lower within. below k lower) above)

-- ---- the devices of the candidates rise

-- the candidates' devices
abbrev devices : List Candidate → List ℕ
devices = map (λ (one : Candidate). one.0)

module _ (views : ByDevice Listing) (name : FileName) (device : Device) (own : Option Entry) where
  all_viewed : (P : ℕ → Type 0) (others : List Device) → AllByRecursion P others → AllByRecursion P (devices (viewed_among views name others))
  all_viewed P [] all = tt
  all_viewed P (other ∷ more) all = cases (record_in views name other) (all_viewed P more all.1)
    where
      cases : (entry : Option Entry) → AllByRecursion P (devices (viewed_among views name more)) → AllByRecursion P (devices (beside other entry ++ viewed_among views name more))
      cases None rest = rest
      cases (Some entry) rest = (all.0, rest)

  viewed_rise : (others : List Device) → IsStrictlySortedBy nat_cmp others → IsStrictlySortedBy nat_cmp (devices (viewed_among views name others))
  unfolding IsStrictlySortedBy
  viewed_rise [] rise = tt
  viewed_rise (other ∷ more) rise = cases (record_in views name other) (viewed_rise more rise.1)
    where
      cases : (entry : Option Entry) → IsStrictlySortedBy nat_cmp (devices (viewed_among views name more)) → IsStrictlySortedBy nat_cmp (devices (beside other entry ++ viewed_among views name more))
      cases None rest = rest
      cases (Some entry) rest = (all_viewed (λ later. nat_cmp other later ≡ Less) more rise.0, rest)

  -- the records of the lower devices, the own one, and those of the upper devices
  abbrev pub in_order : List Device → List Device → List Candidate
  in_order lower upper = viewed_among views name lower ++ (beside device own ++ viewed_among views name upper)

  all_in_order : (P : ℕ → Type 0) (lower upper : List Device) → AllByRecursion P (lower ++ device ∷ upper) → AllByRecursion P (devices (in_order lower upper))
  all_in_order P [] upper all = cases own (all_viewed P upper all.1)
    where
      cases : (entry : Option Entry) → AllByRecursion P (devices (viewed_among views name upper)) → AllByRecursion P (devices (beside device entry ++ viewed_among views name upper))
      cases None rest = rest
      cases (Some entry) rest = (all.0, rest)
  all_in_order P (other ∷ lower) upper all = cases (record_in views name other) (all_in_order P lower upper all.1)
    where
      cases : (entry : Option Entry) → AllByRecursion P (devices (in_order lower upper)) → AllByRecursion P (devices ((beside other entry ++ viewed_among views name lower) ++ (beside device own ++ viewed_among views name upper)))
      cases None rest = rest
      cases (Some entry) rest = (all.0, rest)

  in_order_rise : (lower upper : List Device) → IsStrictlySortedBy nat_cmp (lower ++ device ∷ upper) → IsStrictlySortedBy nat_cmp (devices (in_order lower upper))
  unfolding IsStrictlySortedBy
  in_order_rise [] upper rise = cases own (viewed_rise upper rise.1)
    where
      cases : (entry : Option Entry) → IsStrictlySortedBy nat_cmp (devices (viewed_among views name upper)) → IsStrictlySortedBy nat_cmp (devices (beside device entry ++ viewed_among views name upper))
      cases None rest = rest
      cases (Some entry) rest = (all_viewed (λ later. nat_cmp device later ≡ Less) upper rise.0, rest)
  in_order_rise (other ∷ lower) upper rise = cases (record_in views name other) (in_order_rise lower upper rise.1)
    where
      cases : (entry : Option Entry) → IsStrictlySortedBy nat_cmp (devices (in_order lower upper)) → IsStrictlySortedBy nat_cmp (devices ((beside other entry ++ viewed_among views name lower) ++ (beside device own ++ viewed_among views name upper)))
      cases None rest = rest
      cases (Some entry) rest = (all_in_order (λ later. nat_cmp other later ≡ Less) lower upper rise.0, rest)

  devices_lent : (lent : List (ℕ × Bor Entry)) → devices (candidates_of lent) ≡ map (λ (one : ℕ × Bor Entry). one.0) lent
  devices_lent [] = refl
  devices_lent (one ∷ lent) = ap (λ more. one.0 ∷ more) (devices_lent lent)

  -- so they rise where they are lent
  pub lent_rise : (lent : List (ℕ × Bor Entry)) (lower upper : List Device) → candidates_of lent ≡ in_order lower upper → IsStrictlyIncreasing (lower ++ device ∷ upper) → IsStrictlyIncreasing (map (λ (one : ℕ × Bor Entry). one.0) lent)
  lent_rise lent lower upper same rise =
      subst IsStrictlyIncreasing
      (ap devices (sym same) ∙ devices_lent lent)
      (IsStrictlyIncreasing-from_sorted _ (in_order_rise lower upper (sorted_from_strictly_increasing (lower ++ device ∷ upper) rise)))

  -- what was gathered in three parts
  pub gathered : (others : List Device) (place : ℕ) (lower middle all : List Candidate) → lower ≡ viewed_among views name (take place others) → middle ≡ lower ++ beside device own → all ≡ middle ++ viewed_among views name (take (length others - place) (drop place others)) → all ≡ in_order (take place others) (drop place others)
  gathered others place lower middle all is_lower is_middle is_all =
      let rest : take (length others - place) (drop place others) ≡ drop place others = take_all (length others - place) (drop place others) (omega (arith, length-drop place others)) in
      is_all
      ∙ ap (λ (more : List Device). middle ++ viewed_among views name more) rest
      ∙ ap (λ (front : List Candidate). front ++ viewed_among views name (drop place others)) (is_middle ∙ ap (λ (front : List Candidate). front ++ beside device own) is_lower)
      ∙ append_assoc (viewed_among views name (take place others)) (beside device own) (viewed_among views name (drop place others))

  -- ---- they are the candidates

  both_ways : (A B C : List Candidate) (one : Candidate) → Contains (A ++ (B ++ C)) one → Contains (B ++ (A ++ C)) one
  both_ways A B C one member =
      ⊎_elim
      (λ first. Contains-append_right B (A ++ C) one (Contains-append_left A C one first))
      (λ later. ⊎_elim
      (λ second. Contains-append_left B (A ++ C) one second)
      (λ third. Contains-append_right B (A ++ C) one (Contains-append_right A C one third))
      (Contains-append_cases B C one later))
      (Contains-append_cases A (B ++ C) one member)

  split_known : (others : List Device) (place : ℕ) → known_by device own views name others ≡ beside device own ++ (viewed_among views name (take place others) ++ viewed_among views name (drop place others))
  split_known others place =
      ap (λ all. beside device own ++ all)
      (ap (viewed_among views name) (sym (take-append-drop place others)) ∙ flat_map-append (λ (other : Device). beside other (record_in views name other)) (take place others) (drop place others))

  -- in order they are the same set
  pub same_candidates : (others : List Device) (place : ℕ) → SameSet (in_order (take place others) (drop place others)) (known_by device own views name others)
  same_candidates others place =
      let A = viewed_among views name (take place others) in
      let B = beside device own in
      let C = viewed_among views name (drop place others) in
      subst (λ all. SameSet (A ++ (B ++ C)) all) (sym (split_known others place))
      (λ one. (both_ways A B C one, both_ways B A C one))

  pub same_candidates_back : (others : List Device) (place : ℕ) → SameSet (known_by device own views name others) (in_order (take place others) (drop place others))
  same_candidates_back others place = λ one. let same = same_candidates others place one in (same.1, same.0)

-- the choice is of the set of candidates
abbrev pub IsOfTheSet : Type 0
IsOfTheSet = (chooser : ℕ) (candidates others : List Candidate) (one : Candidate) → SameSet candidates others → IsChoice chooser candidates one → IsChoice chooser others one

pub chosen_of_same : IsOfTheSet → (device : Device) (all others : List Candidate) → SameSet all others → (found : Option (Bor Entry)) → IfSome found (λ one. (from : ℕ) × IsChoice device all (from, one.now)) → IfSome found (λ one. (from : ℕ) × IsChoice device others (from, one.now))
chosen_of_same law device all others same None chosen = tt
chosen_of_same law device all others same (Some one) chosen = (chosen.0, law device all others (chosen.0, one.now) same chosen.1)

-- the candidates are those that the definition of a device's choice names
pub candidates_known : (device : Device) (replica : Replica) (name : FileName) → known_by device (own_at replica name) replica.views name replica.others ≡ candidates device replica name
candidates_known device replica name = ap (λ all. beside device (own_at replica name) ++ all) (each replica.others)
  where
    each : (others : List Device) → viewed_among replica.views name others ≡ viewed_by replica name others
    each [] = refl
    each (other ∷ more) = ap (λ all. beside other (record_in replica.views name other) ++ all) (each more)

-- what is known is what the replica's tables have
pub record IsKnownIn (h : Held) (name : FileName) (device : Device) (own : Option Entry) (views : ByDevice Listing) (others : List Device) : Type 0 where
  pub same_device : device ≡ h.device
  pub same_own : own ≡ own_at h.tables name
  pub same_views : views ≡ h.tables.views
  pub same_others : others ≡ h.tables.others

known_is : (h : Held) (name : FileName) (device : Device) (own : Option Entry) (views : ByDevice Listing) (others : List Device) → IsKnownIn h name device own views others → known_by device own views name others ≡ candidates h.device h.tables name
known_is h name device own views others known =
    ap (λ (d : Device). known_by d own views name others) known.same_device
    ∙ ap (λ (o : Option Entry). known_by h.device o views name others) known.same_own
    ∙ ap (λ (v : ByDevice Listing). known_by h.device (own_at h.tables name) v name others) known.same_views
    ∙ ap (λ (all : List Device). known_by h.device (own_at h.tables name) h.tables.views name all) known.same_others
    ∙ candidates_known h.device h.tables name

-- so the choice among it is the replica's
pub choice_is : (h : Held) (name : FileName) (device : Device) (own : Option Entry) (views : ByDevice Listing) (others : List Device) → IsKnownIn h name device own views others → (one : Candidate) → IsChoice device (known_by device own views name others) one ↔ IsChoice h.device (candidates h.device h.tables name) one
choice_is h name device own views others known one =
    let same = known_is h name device own views others known in (
      λ choice. subst (λ (all : List Candidate). IsChoice h.device all one) same (subst (λ (d : Device). IsChoice d (known_by device own views name others) one) known.same_device choice),
      λ choice. subst (λ (d : Device). IsChoice d (known_by device own views name others) one) (sym known.same_device) (subst (λ (all : List Candidate). IsChoice h.device all one) (sym same) choice),
    )

pub chosen_is : (h : Held) (name : FileName) (device : Device) (own : Option Entry) (views : ByDevice Listing) (others : List Device) → IsKnownIn h name device own views others → (found : Option (Bor Entry)) → IfSome found (λ one. (from : ℕ) × IsChoice device (known_by device own views name others) (from, one.now)) → IfSome found (λ one. Chooses h.device h.tables name one.now)
chosen_is h name device own views others known None chosen = tt
chosen_is h name device own views others known (Some one) chosen = (chosen.0, (choice_is h name device own views others known (chosen.0, one.now)).0 chosen.1)

-- where nothing is found, nothing is chosen
pub none_chosen : (device : Device) (replica : Replica) (name : FileName) (found : Option (Bor Entry)) → ((one : Entry) → Chooses device replica name one → option_copied found ≡ Some one) → IfNone found (ChoosesNone device replica name)
none_chosen device replica name None only = λ one chooses. absurd (none-some one (only one chooses))
none_chosen device replica name (Some one) only = tt

-- ---- they stand under the name in an index

no_names : (name : FileName) → AreNamed name []
no_names name one member = absurd (not_in_none one member)

beside_named : (name : FileName) (device : Device) (own : Option Entry) → IsOwn name own → AreNamed name (beside device own)
beside_named name device None owns one member = absurd (not_in_none one member)
beside_named name device (Some entry) owns one member = subst (λ (c : Candidate). IsOf name c.1) (Contains-one (device, entry) one member) (owns entry refl)

both_named : (name : FileName) (candidates more : List Candidate) → AreNamed name candidates → AreNamed name more → AreNamed name (candidates ++ more)
both_named name candidates more named rest one member = ⊎_elim (λ first. named one first) (λ later. rest one later) (Contains-append_cases candidates more one member)

-- what is lent is the record itself
pub lent_own : (name : FileName) (found : Option (Bor Entry)) (own : Option Entry) → option_copied found ≡ own → IfSome found (λ one. IsOf name one.now) → IsOwn name own
lent_own name None own is named one there = absurd (let e : None ≡ Some one = is ∙ there in cc)
lent_own name (Some lent) own is named one there = let e : Some lent.now ≡ Some one = is ∙ there in let same : lent.now ≡ one = cc in subst (IsOf name) same named

-- the view of one more device
pub viewed_named : (views : ByDevice Listing) (name : FileName) (others : List Device) (other : Device) → AreNamed name (viewed_among views name others) → IsOwn name (record_in views name other) →
    AreNamed name (viewed_among views name (others ++ other ∷ []))
viewed_named views name others other named has =
    subst (AreNamed name) (sym (flat_map-append (λ (device : Device). beside device (record_in views name device)) others (other ∷ [])))
    (both_named name (viewed_among views name others) (viewed_among views name (other ∷ [])) named
    (both_named name (beside other (record_in views name other)) [] (beside_named name other (record_in views name other) has) (no_names name)))

pub in_order_named : (views : ByDevice Listing) (name : FileName) (device : Device) (own : Option Entry) (lower upper : List Device) → AreNamed name (viewed_among views name lower) → IsOwn name own →
    AreNamed name (viewed_among views name upper) → AreNamed name (in_order views name device own lower upper)
in_order_named views name device own lower upper first owns last =
    both_named name (viewed_among views name lower) (beside device own ++ viewed_among views name upper) first
    (both_named name (beside device own) (viewed_among views name upper) (beside_named name device own owns) last)

-- and so does the choice
pub choice_named : (name : FileName) (device : Device) (all : List Candidate) → AreNamed name all → (found : Option (Bor Entry)) → IfSome found (λ one. (from : ℕ) × IsChoice device all (from, one.now)) → IfSome found (λ one. IsOf name one.now)
choice_named name device all named None chosen = tt
choice_named name device all named (Some one) chosen = named (chosen.0, one.now) chosen.1.left.valid.0
