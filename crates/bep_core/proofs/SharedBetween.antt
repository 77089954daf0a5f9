-- Between which devices there are links, and which of these share a folder, as a device and its cluster say it.
use Rattle.std.proofs.Common.{arith, ◌≡◌, ◌≢◌, ◌⊎◌, ◌<◌, ◌==◌, ◌||◌, ℕ, Bool, true, false, if◌then◌else◌, nat_lt, List, [], ◌∷◌, Some, None, Contains, refl, sym, ap, subst, ◌∙◌, inl, inr, ⊎_elim}
use Rattle.std.specs.List.{list_any, position}
use Rattle.std.specs.FinMap.{get}
use Rattle.std.proofs.lemmas.Bool.Decides.{nat_tests}
use Rattle.std.proofs.lemmas.Map.Views.{Contains-from_any}
use Rattle.std.proofs.lemmas.Option.{same_Some}
use Rattle.bep_facts.specs.Members.{not_in_none, Contains-cons_cases}
use Rattle.bep_model.specs.Tables.{Device, Folder}
use Rattle.bep_machine.specs.Exchange.{SharesWith}
use Rattle.bep_machine.specs.Replica.{Replica}
use Rattle.bep_machine.specs.Sound.{FitsFolder}
use Rattle.bep_machine.specs.Steps.{AreLinked, SharesFolder}
use Rattle.bep_peer.specs.Member.{Member, tables_of}
use Rattle.bep_peer.specs.network.Network.{Network, IsNetwork, is_between, is_number, in_order, config_of, ends_of, member_at, numbers_of}
use Rattle.bep_core.proofs.AtLinks.{none_found}
use Rattle.bep_core.proofs.Lift.{none_joins}
use Rattle.bep_peer.proofs.Numbers.{itself, same_number}
use Rattle.bep_peer.proofs.Members.{has_number, not_listed, sharing_there}

-- ---- links

less_is : (m n : ℕ) → m < n → nat_lt m n ≡ true
less_is m n less = grind (arith, nat_tests, less)

greater_is : (m n : ℕ) → n < m → nat_lt m n ≡ false
greater_is m n greater = grind (arith, nat_tests, greater)

module _ (network : Network) (rules : IsNetwork network) (device other : Device) where
  -- two devices between which there is a link are there, and differ
  device_there : AreLinked (config_of network) device other → Contains (numbers_of network.members) device
  device_there (inl stands) = (rules.ends device other stands).1
  device_there (inr stands) = (rules.ends other device stands).2

  another : AreLinked (config_of network) device other → other ≢ device
  another (inl stands) same = let less : device < device = subst (λ (n : ℕ). device < n) same (rules.ends device other stands).0 in absurd (omega (arith, less))
  another (inr stands) same = let less : device < device = subst (λ (n : ℕ). n < device) same (rules.ends other device stands).0 in absurd (omega (arith, less))

  -- their link stands in order
  stands_in_order : AreLinked (config_of network) device other → Contains (ends_of network.links) (in_order device other)
  stands_in_order (inl stands) =
      subst (λ (b : Bool). Contains (ends_of network.links) (if b then (device, other) else (other, device))) (sym (less_is device other (rules.ends device other stands).0)) stands
  stands_in_order (inr stands) =
      subst (λ (b : Bool). Contains (ends_of network.links) (if b then (device, other) else (other, device))) (sym (greater_is device other (rules.ends other device stands).0)) stands

  -- where one of the two isn't found, there is none
  pub not_linked : (position (is_number device) network.members ≡ None) ⊎ (position (is_between (in_order device other).0 (in_order device other).1) network.links ≡ None) → ¬ AreLinked (config_of network) device other
  not_linked (inl none) linked = not_listed network.members device (none_found (is_number device) network.members none) (device_there linked)
  not_linked (inr none) linked =
      none_joins (in_order device other).0 (in_order device other).1 network.links
      (none_found (is_between (in_order device other).0 (in_order device other).1) network.links none) (stands_in_order linked)

-- ---- folders

is_among : (other : Device) (others : List Device) → list_any (λ one. one == other) others ≡ true → Contains others other
is_among other others is = Contains-from_any {eq = λ x y. y == x} (λ (x y : Device) (same : (y == x) ≡ true). sym (same_number y x same)) other others is

either_true : (b c : Bool) → c ≡ true → (b || c) ≡ true
either_true true c is = refl
either_true false c is = is

among_is : (other : Device) (others : List Device) → Contains others other → list_any (λ one. one == other) others ≡ true
among_is other [] stands = absurd (not_in_none other stands)
among_is other (first ∷ others) stands =
    ⊎_elim
    (λ same. ap (λ (b : Bool). b || list_any (λ one. one == other) others) (ap (λ (n : ℕ). n == other) same ∙ itself other))
    (λ more. either_true (first == other) (list_any (λ one. one == other) others) (among_is other others more))
    (Contains-cons_cases first others other stands)

module _ (network : Network) (rules : IsNetwork network) (device other : Device) (folder : Folder) (member : Member) (found : member_at network.members device ≡ Some member) where
  fits : (replica : Replica) → get (tables_of member).replicas folder ≡ Some replica → FitsFolder (config_of network) device folder replica
  fits replica has =
      subst (λ (number : Device). FitsFolder (config_of network) number folder replica) (has_number network.members device member found).0
      ((rules.joined device member found).folders folder replica has)

  -- where both devices share the folder, the one has it, shared with the other
  pub shares_with : AreLinked (config_of network) device other → SharesFolder (config_of network) device folder → SharesFolder (config_of network) other folder → SharesWith other (tables_of member) folder
  shares_with linked one both =
      let there = sharing_there network device folder rules.devices one in
      let has : get (tables_of member).replicas folder ≡ Some there.1 = ap (λ (m : Member). get (tables_of m).replicas folder) (same_Some member there.0 (sym found ∙ there.2)) ∙ there.3 in
      (there.1, has, among_is other there.1.others (((fits there.1 has).others other).1 (another network rules device other linked, both)))

  pub both_share : SharesWith other (tables_of member) folder → SharesFolder (config_of network) device folder × SharesFolder (config_of network) other folder
  both_share shares =
      let fit = fits shares.0 shares.1 in
      ((shares.0.kind, fit.kind), ((fit.others other).0 (is_among other shares.0.others shares.2)).1)
