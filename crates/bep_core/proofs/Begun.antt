-- Devices and links that begin, one after another.
use Rattle.std.proofs.Common.{◌≡◌, ◌≢◌, ◌<◌, ◌++◌, ℕ, true, false, List, [], ◌∷◌, length, map, All, Contains, refl, sym, ap, subst, ◌∙◌, arith}
use Rattle.std.specs.declared.cmp.Ordering.TheVariants.{Less, Equal}
use Rattle.std.specs.Ordering.{nat_cmp, eq_by_cmp}
use Rattle.std.specs.Cmp.{nat_cmp_total}
use Rattle.std.specs.FinMap.{nat_cmp-IsAntisymmetric}
use Rattle.std.specs.Map.{keys_of}
use Rattle.std.specs.BTreeMap.Range.{IsLtBy}
use Rattle.std.proofs.Math.Path.{fun_ext}
use Rattle.std.proofs.lemmas.Cmp.{tied_itself}
use Rattle.std.proofs.lemmas.List.{append_assoc, append-nil}
use Rattle.std.proofs.lemmas.List.Elements.{All-contains}
use Rattle.std.proofs.lemmas.Map.Views.{Contains-from_any}
use Rattle.bep_map.specs.NameMap.{ByName}
use Rattle.bep_facts.specs.Maps.{same_key}
use Rattle.bep_facts.specs.Members.{Contains-image}
use Rattle.bep_record.specs.declared.node.NodeParts.{NodeParts}
use Rattle.bep_config.specs.declared.sharing.Sharing.{Sharing}
use Rattle.bep_config.specs.Config.{Configuration, IsConfig, has_device}
use Rattle.bep_model.specs.Tables.{Device, Folder}
use Rattle.bep_machine.specs.Replica.{ByDevice}
use Rattle.bep_folder.specs.Held.{Held}
use Rattle.bep_links.specs.Link.{LinkBetween, new_link}
use Rattle.bep_peer.specs.Member.{Member, new_member}
use Rattle.bep_peer.specs.network.Network.{Network, numbers_of, ends_of}
use Rattle.bep_core.specs.Begin.{folders_at, linked_with, begun_folders, begun_member, begun}

pub none_left : {X : Type 0} (xs : List X) → (0 < length xs → false ≡ true) → xs ≡ []
none_left [] h = refl
none_left (x ∷ xs) h = let both : false ≡ true = h (omega arith) in absurd (cc)

-- a number that others are above isn't one of these
pub not_above_itself : (xs : List ℕ) (low one : ℕ) → All (IsLtBy nat_cmp low) xs → Contains xs one → one ≢ low
not_above_itself xs low one above stands same =
    let less : nat_cmp low low ≡ Less = subst (λ k. nat_cmp low k ≡ Less) same (All-contains (IsLtBy nat_cmp low) xs one above stands) in
    let tied : nat_cmp low low ≡ Equal = tied_itself nat_cmp_total low in
    absurd (cc)

-- one more was made of those that are left
pub one_begun : {X Y : Type 0} {items : List Y} {left rest : List X} {x : X} {y : Y} (begin : X → Y) (made : List Y) (all : List X) →
    items ≡ made ++ y ∷ [] → y ≡ begin x → left ≡ x ∷ rest → made ++ map begin left ≡ map begin all → items ++ map begin rest ≡ map begin all
one_begun {rest = rest} {y = y} begin made all pushed is removed whole =
    ap (λ ys. ys ++ map begin rest) pushed
    ∙ append_assoc made (y ∷ []) (map begin rest)
    ∙ ap (λ z. made ++ z ∷ map begin rest) is
    ∙ ap (λ xs. made ++ map begin xs) (sym removed)
    ∙ whole

-- none is left
pub all_begun : {X Y : Type 0} (begin : X → Y) (made : List Y) (left all : List X) → (0 < length left → false ≡ true) → made ++ map begin left ≡ map begin all → made ≡ map begin all
all_begun begin made left all none whole =
    sym (append-nil made) ∙ ap (λ xs. made ++ map begin xs) (sym (none_left left none)) ∙ whole

module _ (begin : Device → Member) (numbered : (device : Device) → (begin device).number ≡ device) where
  pub numbers-begun : (devices : List Device) → numbers_of (map begin devices) ≡ devices
  numbers-begun [] = refl
  numbers-begun (device ∷ devices) = λ i. numbered device i ∷ numbers-begun devices i

pub ends-begun : (links : List (Device × Device)) → ends_of (map (λ ends. new_link ends.0 ends.1) links) ≡ links
ends-begun [] = refl
ends-begun (ends ∷ links) = ap (λ more. ends ∷ more) (ends-begun links)

module _ {S : Type 0} (contents : S → ByName NodeParts) (faults : S → ℕ) (config : Configuration S) where
  -- what was made of the parts is what begins from the configuration
  pub is_begun : (members : List Member) (between : List LinkBetween) (folders : ByDevice (ByName Held))
      (devices those : List Device) (keys : List (Folder × Device)) (shares : List ((Folder × Device) × Sharing S)) (links : List (Device × Device)) →
      members ≡ map (λ device. new_member device (folders_at folders device) (linked_with devices links device)) devices →
      ((device : Device) → folders_at folders device ≡ begun_folders contents faults those keys shares device) →
      between ≡ map (λ ends. new_link ends.0 ends.1) config.links →
      devices ≡ config.devices → those ≡ config.devices → keys ≡ keys_of config.shares → shares ≡ config.shares → links ≡ config.links →
      ◌≡◌ {A = Network} (record { members = members; links = between }) (begun contents faults config)
  is_begun members between folders devices those keys shares links made at joined d t k s l =
      let first : members ≡ map (λ device. new_member device (begun_folders contents faults those keys shares device) (linked_with devices links device)) devices =
      made ∙ ap (λ (given : Device → ByName Held). map (λ device. new_member device (given device) (linked_with devices links device)) devices) (fun_ext at) in
      let second : map (λ device. new_member device (begun_folders contents faults those keys shares device) (linked_with devices links device)) devices ≡ map (begun_member contents faults config) config.devices =
      λ i. map (λ device. new_member device (begun_folders contents faults (t i) (k i) (s i) device) (linked_with (d i) (l i) device)) (d i) in
      λ i. record { members = (first ∙ second) i; links = joined i }

-- each share is of one of the devices
pub shared_there : {S : Type 0} (config : Configuration S) → IsConfig config → (share : (Folder × Device) × Sharing S) → Contains config.shares share → Contains config.devices share.0.1
shared_there {S} config rules share stands =
    Contains-from_any {eq = eq_by_cmp nat_cmp} (same_key nat_cmp-IsAntisymmetric) share.0.1 config.devices
    (All-contains (λ key. has_device config key.1 ≡ true) (keys_of config.shares) share.0 rules.of_devices (Contains-image (λ (one : (Folder × Device) × Sharing S). one.0) config.shares share stands))
