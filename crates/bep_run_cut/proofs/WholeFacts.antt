-- Devices and links are whole exactly where they pass the tests.
use Rattle.std.proofs.Common.{◌≡◌, ◌≢◌, ◌↔◌, ◌<◌, ◌≤◌, ◌==◌, ◌&&◌, ◌||◌, ◌∙◌, ℕ, Bool, true, false, cond, nat_lt, List, [], ◌∷◌, map, length, Option, Some, None, Contains, IsSome, IsTrue, is_some, refl, sym, ap, subst, ⊎_elim, eqb-true, ltb-true, ltb-false, arith}
use Rattle.std.specs.Prelude.{not}
use Rattle.std.proofs.lemmas.Bool.{eq-eqb, ne_eqb, cases_Bool, false_from_ne_true}
use Rattle.std.proofs.lemmas.Map.Keys.{IsStrictlyIncreasing-from_sorted, sorted_from_strictly_increasing, sorted_head, sorted_tail}
use Rattle.std.proofs.lemmas.Map.Lookups.{exact_bytes}
use Rattle.std.proofs.lemmas.Cmp.{on_total, then_total}
use Rattle.std.specs.declared.cmp.Ordering.TheVariants.{Less, Equal, Greater}
use Rattle.std.specs.Cmp.{IsTotalOrder, nat_cmp_total}
use Rattle.std.specs.Cmp.Lexicographic.{nat_list_cmp_total}
use Rattle.std.specs.Ordering.{is_lt, nat_cmp}
use Rattle.std.specs.List.{list_all}
use Rattle.std.specs.List.Sorted.{IsStrictlyIncreasing, IsStrictlySortedBy}
use Rattle.std.specs.FinMap.{entries, get}
use Rattle.bep_facts.specs.Entries.{entry_stands}
use Rattle.bep_facts.specs.Members.{Contains-first, Contains-from_image, Contains-image, not_in_none}
use Rattle.bep_facts.specs.Orders.{Less_from_is_lt}
use Rattle.bep_facts.specs.Rising.{sorted_from_steps}
use Rattle.bep_record.specs.declared.limits.TheConstants.{MAX_DEVICES, MAX_FOLDERS}
use Rattle.bep_model.specs.Tables.{Device, Folder}
use Rattle.bep_folder.specs.Held.{Held}
use Rattle.bep_links.specs.Link.{LinkBetween}
use Rattle.bep_peer.specs.Member.{Member}
use Rattle.bep_peer.specs.network.Network.{ends_of, in_order, is_between, numbers_of}
use Rattle.bep_tables.specs.Cut.{ends_cmp}
use Rattle.bep_cut.specs.Cut.{folders_of, seen}
use Rattle.bep_cut.specs.Parts.{AgreeOnLinks, AgreeOnSharing, Has, Knows}
use Rattle.bep_run_cut.specs.declared.limits.TheConstants.{MAX_LINKS}
use Rattle.bep_run_cut.specs.inner.Tested.{all_agree, are_there, device_agrees, devices_rise, ends_after, folder_agrees, has, has_folder, has_some, is_known, is_named, is_one_of, is_there, knows, knows_link, links_rise, rise_after, sharing_agrees, shares_some}
use Rattle.bep_run_cut.specs.Whole.{AreWhole}
use Rattle.bep_run_cut.proofs.Tests.{all_pass, any_passes, both, each_passes, some_passes, with_both}

-- ---- what a test of one says

is_one : (devices : List Device) (device : Device) → is_one_of devices device ≡ true ↔ Contains devices device
is_one devices device = (
  λ is. let found = some_passes (λ (one : Device). one == device) devices is in subst (Contains devices) (eqb-true found.0 device found.2) found.1,
  λ there. any_passes (λ (one : Device). one == device) devices device there (eq-eqb device device refl),
)

some_is : {X : Type 0} (o : Option X) → is_some o ≡ true ↔ IsSome o
some_is None = (λ is. absurd (cc), λ is. absurd (cc))
some_is (Some x) = (λ is. refl, λ is. refl)

module _ (members : List Member) where
  has_is : (device : Device) (folder : Folder) → has members device folder ≡ true ↔ Has members device folder
  has_is device folder = (
    λ is.
        let found = some_passes (has_folder device folder) members is in
        let parts = both (found.0.number == device) (is_some (get found.0.folders folder)) found.2 in
        record { member = found.0; there = found.1; number = eqb-true found.0.number device parts.0; shares = (some_is (get found.0.folders folder)).0 parts.1 },
    λ h. any_passes (has_folder device folder) members h.member h.there
        (with_both (h.member.number == device) (is_some (get h.member.folders folder)) (eq-eqb h.member.number device h.number) ((some_is (get h.member.folders folder)).1 h.shares)),
  )

  knows_is : (device other : Device) → knows members device other ≡ true ↔ Knows members device other
  knows_is device other = (
    λ is.
        let found = some_passes (knows_link device other) members is in
        let parts = both (found.0.number == device) (is_one_of found.0.linked other) found.2 in
        record { member = found.0; there = found.1; number = eqb-true found.0.number device parts.0; linked = (is_one found.0.linked other).0 parts.1 },
    λ k. any_passes (knows_link device other) members k.member k.there
        (with_both (k.member.number == device) (is_one_of k.member.linked other) (eq-eqb k.member.number device k.number) ((is_one k.member.linked other).1 k.linked)),
  )

there_is : (links : List LinkBetween) (ends : Device × Device) → is_there links ends ≡ true ↔ Contains (ends_of links) ends
there_is links ends = (
  λ is.
      let found = some_passes (is_between ends.0 ends.1) links is in
      let parts = both (found.0.ends.0 == ends.0) (found.0.ends.1 == ends.1) found.2 in
      let same : found.0.ends ≡ ends = λ i. (eqb-true found.0.ends.0 ends.0 parts.0 i, eqb-true found.0.ends.1 ends.1 parts.1 i) in
      subst (Contains (ends_of links)) same (Contains-image (λ (between : LinkBetween). between.ends) links found.0 found.1),
  λ stands.
      let from = Contains-from_image (λ (between : LinkBetween). between.ends) links ends stands in
      any_passes (is_between ends.0 ends.1) links from.0 from.1
      (with_both (from.0.ends.0 == ends.0) (from.0.ends.1 == ends.1) (eq-eqb from.0.ends.0 ends.0 (ap (λ (e : Device × Device). e.0) from.2)) (eq-eqb from.0.ends.1 ends.1 (ap (λ (e : Device × Device). e.1) from.2))),
)

-- ---- who shares a folder

or_first : (a b : Bool) → (a || b) ≡ true → a ≡ false → b ≡ true
or_first true b is lacks = absurd (cc)
or_first false b is lacks = is

or_left : (a b : Bool) → a ≡ true → (a || b) ≡ true
or_left true b is = refl
or_left false b is = absurd (cc)

or_right : (a b : Bool) → b ≡ true → (a || b) ≡ true
or_right true b is = refl
or_right false b is = is

not_true : (a : Bool) → a ≡ true → not a ≡ false
not_true true is = refl
not_true false is = absurd (cc)

not_false : (a : Bool) → a ≡ false → not a ≡ true
not_false true is = absurd (cc)
not_false false is = refl

from_not : (a : Bool) → not a ≡ true → a ≢ true
from_not true is holds = cc
from_not false is holds = cc

-- what a device says of the others that share its folder
abbrev Names : List Member → Device → Folder → List Device → Type 0
Names members number folder others = (device : Device) → Contains others device ↔ ((device ≢ number) × Has members device folder)

module _ (members : List Member) (number : Device) (folder : Folder) (others : List Device) where
  pub folder_says : folder_agrees members number folder others ≡ true → Names members number folder others
  folder_says agrees =
      let outer = both (not (is_one_of others number) && list_all (λ (other : Device). has members other folder) others) (list_all (is_named number folder others) members) agrees in
      let inner = both (not (is_one_of others number)) (list_all (λ (other : Device). has members other folder) others) outer.0 in
      λ device. (
        λ stands. (
          λ same. from_not (is_one_of others number) inner.0 ((is_one others number).1 (subst (Contains others) same stands)),
          (has_is members device folder).0 (each_passes (λ (other : Device). has members other folder) others inner.1 device stands),
        ),
        λ is.
            let h = is.1 in
            let named = each_passes (is_named number folder others) members outer.1 h.member h.there in
            let apart : (h.member.number == number) ≡ false = ne_eqb h.member.number number (λ same. is.0 (sym h.number ∙ same)) in
            let shared : not (is_some (get h.member.folders folder)) ≡ false = not_true (is_some (get h.member.folders folder)) ((some_is (get h.member.folders folder)).1 h.shares) in
            let neither : ((h.member.number == number) || not (is_some (get h.member.folders folder))) ≡ false = λ i. apart i || shared i in
            subst (Contains others) h.number ((is_one others h.member.number).0 (or_first ((h.member.number == number) || not (is_some (get h.member.folders folder))) (is_one_of others h.member.number) named neither)),
      )

  pub says_folder : Names members number folder others → folder_agrees members number folder others ≡ true
  says_folder names =
      with_both (not (is_one_of others number) && list_all (λ (other : Device). has members other folder) others) (list_all (is_named number folder others) members)
      (with_both (not (is_one_of others number)) (list_all (λ (other : Device). has members other folder) others)
      (not_false (is_one_of others number) (false_from_ne_true (is_one_of others number) (λ is. ((names number).0 ((is_one others number).0 is)).0 refl)))
      (all_pass (λ (other : Device). has members other folder) others (λ other stands. (has_is members other folder).1 ((names other).0 stands).1)))
      (all_pass (is_named number folder others) members named)
    where
      named : (member : Member) → Contains members member → is_named number folder others member ≡ true
      named member there =
          ⊎_elim
          (λ same. or_left ((member.number == number) || not (is_some (get member.folders folder))) (is_one_of others member.number) (or_left (member.number == number) (not (is_some (get member.folders folder))) same))
          (λ apart. ⊎_elim
          (λ shares. or_right ((member.number == number) || not (is_some (get member.folders folder))) (is_one_of others member.number)
          ((is_one others member.number).1 ((names member.number).1 (
            λ same. let yes = eq-eqb member.number number same in let both_ways : true ≡ false = sym yes ∙ apart in absurd (cc),
            record { member = member; there = there; number = refl; shares = (some_is (get member.folders folder)).0 shares },
          ))))
          (λ lacks. or_left ((member.number == number) || not (is_some (get member.folders folder))) (is_one_of others member.number) (or_right (member.number == number) (not (is_some (get member.folders folder))) (not_false (is_some (get member.folders folder)) lacks)))
          (cases_Bool (is_some (get member.folders folder))))
          (cases_Bool (member.number == number))

entry_is : (member : Member) (folder : Folder) (held : Held) → (get member.folders folder ≡ Some held) ↔ Contains (entries member.folders) (folder, held)
entry_is member folder held = entry_stands nat_list_cmp_total exact_bytes member.folders folder held

module _ (members : List Member) where
  abbrev agrees_at : Member → Folder × Held → Bool
  agrees_at member one = folder_agrees members member.number one.0 one.1.tables.others

  pub sharing_says : ((member : Member) → Contains members member → sharing_agrees members member ≡ true) → AgreeOnSharing members
  sharing_says each member folder held device there has =
      folder_says members member.number folder held.tables.others
      (each_passes (agrees_at member) (entries member.folders) (each member there) (folder, held) ((entry_is member folder held).0 has)) device

  pub says_sharing : AgreeOnSharing members → (member : Member) → Contains members member → sharing_agrees members member ≡ true
  says_sharing agree member there = all_pass (agrees_at member) (entries member.folders) (λ one stands.
      says_folder members member.number one.0 one.1.tables.others (λ device. agree member one.0 one.1 device there ((entry_is member one.0 one.1).1 stands)))

-- ---- each shares some

some_says : (member : Member) → shares_some member ≡ true → (folder : Folder) × IsSome (get member.folders folder)
some_says member = cases (entries member.folders) (λ folder held stands. (entry_is member folder held).1 stands)
  where
    cases : (es : List (Folder × Held)) → ((folder : Folder) (held : Held) → Contains es (folder, held) → get member.folders folder ≡ Some held) → has_some es ≡ true → (folder : Folder) × IsSome (get member.folders folder)
    cases [] found some = absurd (cc)
    cases (one ∷ more) found some = (one.0, subst (λ (o : Option Held). IsSome o) (sym (found one.0 one.1 (Contains-first one more))) refl)

says_some : (member : Member) (folder : Folder) → IsSome (get member.folders folder) → shares_some member ≡ true
says_some member folder = cases (get member.folders folder) refl
  where
    nonempty : (es : List (Folder × Held)) (one : Folder × Held) → Contains es one → has_some es ≡ true
    nonempty [] one there = absurd (not_in_none one there)
    nonempty (first ∷ more) one there = refl

    cases : (o : Option Held) → get member.folders folder ≡ o → IsSome o → has_some (entries member.folders) ≡ true
    cases None is some = absurd (cc)
    cases (Some held) is some = nonempty (entries member.folders) (folder, held) ((entry_is member folder held).0 is)

-- ---- links

less_is : (lower upper : ℕ) → lower < upper → nat_lt lower upper ≡ true
less_is lower upper less =
    ⊎_elim (λ is. is) (λ is. let most = ltb-false lower upper is in absurd (omega (arith, less, most))) (cases_Bool (nat_lt lower upper))

in_order_is : (lower upper : Device) → lower < upper → in_order lower upper ≡ (lower, upper)
in_order_is lower upper less = ap (λ b. cond b (lower, upper) (upper, lower)) (less_is lower upper less)

module _ (members : List Member) (links : List LinkBetween) (known : (between : LinkBetween) → Contains links between → is_known members between ≡ true) (there : (member : Member) → Contains members member → are_there links member ≡ true) where
  pub knows_says : (device other : Device) → Knows members device other → Contains (ends_of links) (in_order device other)
  knows_says device other knows =
      (there_is links (in_order device other)).0
      (subst (λ (d : Device). is_there links (in_order d other) ≡ true) knows.number
      (each_passes (λ (o : Device). is_there links (in_order knows.member.number o)) knows.member.linked (there knows.member knows.there) other knows.linked))

  pub links_say : AgreeOnLinks members links
  links_say lower upper = (
    λ stands.
        let from = Contains-from_image (λ (between : LinkBetween). between.ends) links (lower, upper) stands in
        let says = known from.0 from.1 in
        let outer = both (nat_lt from.0.ends.0 from.0.ends.1 && knows members from.0.ends.0 from.0.ends.1) (knows members from.0.ends.1 from.0.ends.0) says in
        let inner = both (nat_lt from.0.ends.0 from.0.ends.1) (knows members from.0.ends.0 from.0.ends.1) outer.0 in
        subst (λ (ends : Device × Device). (ends.0 < ends.1) × Knows members ends.0 ends.1 × Knows members ends.1 ends.0) from.2
        (ltb-true from.0.ends.0 from.0.ends.1 inner.0, (knows_is members from.0.ends.0 from.0.ends.1).0 inner.1, (knows_is members from.0.ends.1 from.0.ends.0).0 outer.1),
    λ all. subst (Contains (ends_of links)) (in_order_is lower upper all.0) (knows_says lower upper all.1),
  )

module _ (members : List Member) (links : List LinkBetween) (agree : AgreeOnLinks members links) (all_known : (device other : Device) → Knows members device other → Contains (ends_of links) (in_order device other)) where
  pub say_known : (between : LinkBetween) → Contains links between → is_known members between ≡ true
  say_known between stands =
      let says = (agree between.ends.0 between.ends.1).0 (Contains-image (λ (one : LinkBetween). one.ends) links between stands) in
      with_both (nat_lt between.ends.0 between.ends.1 && knows members between.ends.0 between.ends.1) (knows members between.ends.1 between.ends.0)
      (with_both (nat_lt between.ends.0 between.ends.1) (knows members between.ends.0 between.ends.1) (less_is between.ends.0 between.ends.1 says.0) ((knows_is members between.ends.0 between.ends.1).1 says.1))
      ((knows_is members between.ends.1 between.ends.0).1 says.2)

  pub say_there : (member : Member) → Contains members member → are_there links member ≡ true
  say_there member there = all_pass (λ (other : Device). is_there links (in_order member.number other)) member.linked (λ other stands.
      (there_is links (in_order member.number other)).1 (all_known member.number other (record { member = member; there = there; number = refl; linked = stands })))

-- ---- in order

abbrev number_of : Member → Device
number_of member = member.number

abbrev its_ends : LinkBetween → Device × Device
its_ends between = between.ends

total_ends : IsTotalOrder ends_cmp
total_ends = then_total (on_total (λ (ends : ℕ × ℕ). ends.0) nat_cmp_total) (on_total (λ (ends : ℕ × ℕ). ends.1) nat_cmp_total)

nat_lt_is : (m n : ℕ) → nat_lt m n ≡ is_lt (nat_cmp m n)
nat_lt_is m n = cases (nat_lt m n) (m == n)
  where
    cases : (b c : Bool) → b ≡ is_lt (cond b Less (cond c Equal Greater))
    cases true c = refl
    cases false true = refl
    cases false false = refl

devices_sorted : (members : List Member) → devices_rise members ≡ true → IsStrictlySortedBy nat_cmp (numbers_of members)
devices_sorted = sorted_from_steps nat_cmp number_of nat_cmp_total (λ members. devices_rise members ≡ true) (λ one next more rise.
    let parts = both (nat_lt one.number next.number) (rise_after next.number more) rise in
    (Less_from_is_lt (nat_cmp one.number next.number) (sym (nat_lt_is one.number next.number) ∙ parts.0), parts.1))

links_sorted : (links : List LinkBetween) → links_rise links ≡ true → IsStrictlySortedBy ends_cmp (ends_of links)
links_sorted = sorted_from_steps ends_cmp its_ends total_ends (λ links. links_rise links ≡ true) (λ one next more rise.
    let parts = both (is_lt (ends_cmp one.ends next.ends)) (ends_after next.ends more) rise in
    (Less_from_is_lt (ends_cmp one.ends next.ends) parts.0, parts.1))

sorted_devices : (one : Member) (more : List Member) → IsStrictlySortedBy nat_cmp (numbers_of (one ∷ more)) → rise_after one.number more ≡ true
sorted_devices one [] sorted = refl
sorted_devices one (next ∷ more) sorted =
    with_both (nat_lt one.number next.number) (rise_after next.number more)
    (nat_lt_is one.number next.number ∙ ap is_lt (sorted_head nat_cmp one.number (numbers_of (next ∷ more)) sorted).0)
    (sorted_devices next more (sorted_tail nat_cmp one.number (numbers_of (next ∷ more)) sorted))

sorted_links : (one : LinkBetween) (more : List LinkBetween) → IsStrictlySortedBy ends_cmp (ends_of (one ∷ more)) → ends_after one.ends more ≡ true
sorted_links one [] sorted = refl
sorted_links one (next ∷ more) sorted =
    with_both (is_lt (ends_cmp one.ends next.ends)) (ends_after next.ends more)
    (ap is_lt (sorted_head ends_cmp one.ends (ends_of (next ∷ more)) sorted).0)
    (sorted_links next more (sorted_tail ends_cmp one.ends (ends_of (next ∷ more)) sorted))

devices_say : (members : List Member) → devices_rise members ≡ true ↔ IsStrictlyIncreasing (numbers_of members)
devices_say members = (λ rise. IsStrictlyIncreasing-from_sorted (numbers_of members) (devices_sorted members rise), back members)
  where
    back : (members : List Member) → IsStrictlyIncreasing (numbers_of members) → devices_rise members ≡ true
    back [] increasing = refl
    back (one ∷ more) increasing = sorted_devices one more (sorted_from_strictly_increasing (numbers_of (one ∷ more)) increasing)

links_rise_say : (links : List LinkBetween) → links_rise links ≡ true ↔ IsStrictlySortedBy ends_cmp (ends_of links)
links_rise_say links = (links_sorted links, back links)
  where
    back : (links : List LinkBetween) → IsStrictlySortedBy ends_cmp (ends_of links) → links_rise links ≡ true
    back [] sorted = refl
    back (one ∷ more) sorted = sorted_links one more sorted

-- ---- the whole

each_device : (members : List Member) (links : List LinkBetween) → list_all (device_agrees members links) members ≡ true → (member : Member) → Contains members member →
    (shares_some member ≡ true) × (sharing_agrees members member ≡ true) × (are_there links member ≡ true)
each_device members links all member there =
    let outer = both (shares_some member && sharing_agrees members member) (are_there links member) (each_passes (device_agrees members links) members all member there) in
    let inner = both (shares_some member) (sharing_agrees members member) outer.0 in
    (inner.0, inner.1, outer.1)

module _ (members : List Member) (links : List LinkBetween) where
  pub whole_from : length members ≤ MAX_DEVICES → length (folders_of (map seen members)) ≤ MAX_FOLDERS → length links ≤ MAX_LINKS → (devices_rise members && links_rise links) ≡ true → all_agree members links ≡ true → AreWhole members links
  whole_from few_devices few_folders few_links in_order agree =
      let order = both (devices_rise members) (links_rise links) in_order in
      let agreed = both (list_all (device_agrees members links) members) (list_all (is_known members) links) agree in
      let known = each_passes (is_known members) links agreed.1 in
      record {
        parts = record {
          devices = (devices_say members).0 order.0;
          rising = (links_rise_say links).0 order.1;
          few_devices = few_devices;
          few_folders = few_folders;
          sharing = sharing_says members (λ member there. (each_device members links agreed.0 member there).1);
          linked = links_say members links known (λ member there. (each_device members links agreed.0 member there).2);
          some = λ member there. some_says member (each_device members links agreed.0 member there).0;
        };
        known = knows_says members links known (λ member there. (each_device members links agreed.0 member there).2);
        few = few_links;
      }

  pub from_whole : AreWhole members links →
      (length members ≤ MAX_DEVICES) × (length (folders_of (map seen members)) ≤ MAX_FOLDERS) × (length links ≤ MAX_LINKS) × ((devices_rise members && links_rise links) ≡ true) × (all_agree members links ≡ true)
  from_whole whole =
      let parts = whole.parts in (
        parts.few_devices,
        parts.few_folders,
        whole.few,
        with_both (devices_rise members) (links_rise links) ((devices_say members).1 parts.devices) ((links_rise_say links).1 parts.rising),
        with_both (list_all (device_agrees members links) members) (list_all (is_known members) links)
            (all_pass (device_agrees members links) members (λ member there.
            let some = parts.some member there in
            with_both (shares_some member && sharing_agrees members member) (are_there links member)
            (with_both (shares_some member) (sharing_agrees members member) (says_some member some.0 some.1) (says_sharing members parts.sharing member there))
            (say_there members links parts.linked whole.known member there)))
            (all_pass (is_known members) links (say_known members links parts.linked whole.known)),
      )

pub whole_is : (members : List Member) (links : List LinkBetween) (few named : Bool) → IsTrue few ↔ (length (folders_of (map seen members)) ≤ MAX_FOLDERS) →
    IsTrue named ↔ ((length members ≤ MAX_DEVICES) × (length links ≤ MAX_LINKS)) →
    (in_order agree : Bool) → in_order ≡ (devices_rise members && links_rise links) → agree ≡ all_agree members links →
    (r : Bool) → IsTrue r ↔ (IsTrue few × IsTrue named × IsTrue in_order × IsTrue agree) → IsTrue r ↔ AreWhole members links
whole_is members links few named folders objects in_order agree order_is agree_is r all = (
  λ yes.
      let parts = all.0 yes in
      let sizes = objects.0 parts.1 in
      whole_from members links sizes.0 (folders.0 parts.0) sizes.1 (sym order_is ∙ parts.2) (sym agree_is ∙ parts.3),
  λ whole.
      let parts = from_whole members links whole in
      all.1 (folders.1 parts.1, objects.1 (parts.0, parts.2), order_is ∙ parts.3, agree_is ∙ parts.4),
)
