-- Devices and links of which a cut can be taken agree on who shares what, and so do those of a cluster.
use Rattle.std.proofs.Common.{◌≡◌, ◌≢◌, ◌↔◌, ◌∙◌, List, [], Option, Some, None, Contains, IsSome, option_map, refl, ap, sym, subst}
use Rattle.std.specs.FinMap.{get}
use Rattle.bep_facts.specs.Members.{not_in_none, Contains-first, Contains-flat_map, Contains-from_flat_map, Contains-image, Contains-one}
use Rattle.bep_record.specs.declared.folder_kind.FolderKind.{FolderKind}
use Rattle.bep_model.specs.Tables.{Device, Folder}
use Rattle.bep_machine.specs.Replica.{Replica}
use Rattle.bep_machine.specs.Sound.{FitsFolder}
use Rattle.bep_machine.specs.Steps.{SharesFolder}
use Rattle.bep_folder.specs.Held.{Held}
use Rattle.bep_links.specs.Link.{LinkBetween}
use Rattle.bep_peer.specs.network.Agreed.{AreAgreed, network_of}
use Rattle.bep_peer.specs.network.Network.{Network, IsNetwork, config_of, kind_of, numbers_of, sharing_of}
use Rattle.bep_peer.specs.network.Sharing.{FoundByNumber}
use Rattle.bep_peer.specs.Laws.{TablesAreFound}
use Rattle.bep_peer.specs.Member.{Member, tables_of}
use Rattle.bep_cut.specs.Parts.{AreParts, Has, Knows}
use Rattle.bep_cut.proofs.SharesCut.{held_at}

-- what is kept as a cluster agrees
pub network_agrees : FoundByNumber → (network : Network) → IsNetwork network → AreAgreed network
network_agrees found network rules = record {
  devices = rules.devices;
  ends = rules.ends;
  folders = λ member folder replica there has. (rules.joined member.number member (found network member rules there)).folders folder replica has;
}

-- ---- who shares a folder

of_kind : (number device : Device) (kind : FolderKind) (found : Option Replica) → Contains (kind_of number found) (device, kind) → (replica : Replica) × (found ≡ Some replica) × (number ≡ device)
of_kind number device kind None stands = absurd (not_in_none _ stands)
of_kind number device kind (Some replica) stands = (replica, refl, ap (λ (one : Device × FolderKind). one.0) (Contains-one (number, replica.kind) (device, kind) stands))

held_there : (found : Option Held) → IsSome found → (held : Held) × (found ≡ Some held)
held_there None has = absurd (cc)
held_there (Some held) has = (held, refl)

module _ (law : TablesAreFound) (members : List Member) (links : List LinkBetween) (parts : AreParts members links) where
  -- a device that has the folder is said to share it, in its kind
  said_kind : (member : Member) (folder : Folder) (replica : Replica) → Contains members member → get (tables_of member).replicas folder ≡ Some replica → Contains (sharing_of members folder) (member.number, replica.kind)
  said_kind member folder replica there has =
      Contains-flat_map (λ (one : Member). kind_of one.number (get (tables_of one).replicas folder)) members member (member.number, replica.kind) there
      (subst (λ (found : Option Replica). Contains (kind_of member.number found) (member.number, replica.kind)) (sym has) (Contains-first (member.number, replica.kind) []))

  has_shares : (device : Device) (folder : Folder) → Has members device folder → SharesFolder (config_of (network_of members links)) device folder
  has_shares device folder has =
      let held = held_there (get has.member.folders folder) has.shares in
      let tables = law has.member folder ∙ ap (option_map (λ (one : Held). one.tables)) held.1 in
      (held.0.tables.kind, subst (λ (number : Device). Contains (sharing_of members folder) (number, held.0.tables.kind)) has.number (said_kind has.member folder held.0.tables has.there tables))

  shares_has : (device : Device) (folder : Folder) → SharesFolder (config_of (network_of members links)) device folder → Has members device folder
  shares_has device folder shares =
      let from = Contains-from_flat_map (λ (one : Member). kind_of one.number (get (tables_of one).replicas folder)) members (device, shares.0) shares.1 in
      let here = of_kind from.0.number device shares.0 (get (tables_of from.0).replicas folder) from.2 in
      let held = held_at law members links parts from.0 folder here.0 here.1 in
      record { member = from.0; there = from.1; number = here.2; shares = subst (λ (found : Option Held). IsSome found) (sym held.1) refl }

  fits : (member : Member) (folder : Folder) (replica : Replica) → Contains members member → get (tables_of member).replicas folder ≡ Some replica → FitsFolder (config_of (network_of members links)) member.number folder replica
  fits member folder replica there has =
      let held = held_at law members links parts member folder replica has in
      let named = λ (other : Device). subst (λ (tables : Replica). Contains tables.others other ↔ ((other ≢ member.number) × Has members other folder)) held.2 (parts.sharing member folder held.0 other there held.1) in
      record {
        kind = said_kind member folder replica there has;
        others = λ other. (
          λ stands. let is = (named other).0 stands in (is.0, has_shares other folder is.1),
          λ shares. (named other).1 (shares.0, shares_has other folder shares.1),
        );
      }

  -- ---- links

  listed : (device other : Device) → Knows members device other → Contains (numbers_of members) device
  listed device other knows = subst (Contains (numbers_of members)) knows.number (Contains-image (λ (one : Member). one.number) members knows.member knows.there)

  -- ---- the whole

  pub parts_agree : AreAgreed (network_of members links)
  parts_agree = record {
    devices = parts.devices;
    ends = λ one other stands.
        let both = (parts.linked one other).0 stands in
        (both.0, listed one other both.1, listed other one both.2);
    folders = fits;
  }
