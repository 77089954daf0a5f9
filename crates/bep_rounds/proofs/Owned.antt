-- A device's own records, as the tables tell them.
use Rattle.std.proofs.Common.{◌≡◌, ◌∙◌, ◌==◌, ◌||◌, Bool, true, false, List, [], ◌∷◌, Option, Some, None, Contains, refl, sym, ap, if◌then◌else◌, ⊎_elim}
use Rattle.std.proofs.lemmas.Bool.{eq-eqb}
use Rattle.std.specs.Cmp.Lexicographic.{slice_cmp}
use Rattle.std.specs.FinMap.{get, get-empty}
use Rattle.std.specs.Ordering.{nat_cmp}
use Rattle.bep_facts.specs.Members.{not_in_none, Contains-cons_cases}
use Rattle.bep_record.specs.declared.folder_kind.FolderKind.{FolderKind}
use Rattle.bep_model.specs.Tables.{Device, Folder, FileName}
use Rattle.bep_machine.specs.Replica.{Replica, own_at}
use Rattle.bep_machine.specs.Said.{is_among, looked_up, tables_of_cluster}
use Rattle.bep_machine.specs.Sound.{IsSound, FitsFolder}
use Rattle.bep_peer.specs.Member.{Member}
use Rattle.bep_peer.specs.network.Network.{Network, cluster_of, config_of, member_at, peer_of}
use Rattle.bep_peer.proofs.Members.{listed}

-- a device in some kind is one of those that share
among_them : (device : Device) (kind : FolderKind) (sharing : List (Device × FolderKind)) → Contains sharing (device, kind) → is_among device sharing ≡ true
among_them device kind [] member = absurd (not_in_none (device, kind) member)
among_them device kind (first ∷ more) member =
    ⊎_elim
    (λ same. ap (λ (b : Bool). b || is_among device more) (eq-eqb first.0 device (ap (λ (s : Device × FolderKind). s.0) same)))
    (λ later. either (first.0 == device) (among_them device kind more later))
    (Contains-cons_cases first more (device, kind) member)
  where
    either : (b : Bool) → is_among device more ≡ true → (b || is_among device more) ≡ true
    either true e = refl
    either false e = e

nothing_told : (name : FileName) (b : Bool) → looked_up own_at name (if b then None else None) ≡ None
nothing_told name true = refl
nothing_told name false = refl

-- who has a replica is there
pub member_of : (network : Network) (device : Device) (folder : Folder) (replica : Replica) → get ((cluster_of network).peer device).replicas folder ≡ Some replica → (member : Member) × (member_at network.members device ≡ Some member)
member_of network device folder replica has = there (member_at network.members device) refl
  where
    there : (found : Option Member) → member_at network.members device ≡ found → (member : Member) × (member_at network.members device ≡ Some member)
    there None is =
        let none : get (peer_of (member_at network.members device)).replicas folder ≡ None = ap (λ (o : Option Member). get (peer_of o).replicas folder) is ∙ get-empty {X = Replica} (slice_cmp nat_cmp) folder in
        let never : None ≡ Some replica = sym none ∙ has in
        absurd (cc)
    there (Some member) is = (member, is)

module _ (network : Network) (sound : IsSound (cluster_of network)) (device : Device) (folder : Folder) where
  -- who has a replica of a folder shares it
  pub fits : (replica : Replica) → get ((cluster_of network).peer device).replicas folder ≡ Some replica → FitsFolder (config_of network) device folder replica
  fits replica has =
      let there = member_of network device folder replica has in
      (sound.peers device (listed network.members device there.0 there.1)).fit folder replica has

  -- so the tables tell what the replica has
  pub own_told : (name : FileName) (found : Option Replica) → found ≡ get ((cluster_of network).peer device).replicas folder →
      (tables_of_cluster (cluster_of network)).own device folder name ≡ looked_up own_at name found
  own_told name None none =
      ap (λ (o : Option Replica). looked_up own_at name (if is_among device ((config_of network).sharing folder) then o else None)) (sym none)
      ∙ nothing_told name (is_among device ((config_of network).sharing folder))
  own_told name (Some replica) is =
      let fit = fits replica (sym is) in
      ap (λ (b : Bool). looked_up own_at name (if b then get ((cluster_of network).peer device).replicas folder else None)) (among_them device replica.kind ((config_of network).sharing folder) fit.kind)
      ∙ ap (λ (o : Option Replica). looked_up own_at name o) (sym is)
