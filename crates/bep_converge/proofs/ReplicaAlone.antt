-- What the tables say once one replica changed one name alone.
use Rattle.std.proofs.Common.{◌≡◌, ◌==◌, ◌||◌, Bool, true, false, List, [], ◌∷◌, Contains, Option, Some, None, refl, sym, ap, subst, ◌∙◌, ⊎_elim, unwrap_or, option_map, if◌then◌else◌}
use Rattle.std.proofs.lemmas.Bool.{cases_Bool, eq-eqb, eqb-true}
use Rattle.std.proofs.lemmas.Cmp.{nat_list_cmp_total}
use Rattle.std.proofs.lemmas.Map.Lookups.{exact_bytes}
use Rattle.std.specs.FinMap.{get}
use Rattle.bep_facts.specs.Maps.{get-insert_here}
use Rattle.bep_facts.specs.Members.{not_in_none, Contains-first, Contains-more, Contains-cons_cases}
use Rattle.bep_record.specs.declared.folder_kind.FolderKind.{FolderKind}
use Rattle.bep_index.specs.View.{cleared}
use Rattle.bep_model.specs.Tables.{Device, Folder, FileName}
use Rattle.bep_machine.specs.Cluster.{Config, Cluster, with_peer}
use Rattle.bep_machine.specs.Effects.{KeepsOtherNames}
use Rattle.bep_machine.specs.Peer.{with_replica}
use Rattle.bep_machine.specs.Replica.{Replica, Pull, own_at, node_at, viewed_at, target_at}
use Rattle.bep_machine.specs.Said.{is_among, replica_said, looked_up, tables_of_cluster}
use Rattle.bep_machine.specs.Steps.{SharesFolder}
use Rattle.bep_converge.specs.Tops.{ChangesAlone}
use Rattle.bep_converge.proofs.Rows.{at_each_folder, where_one_changes, Everywhere}

-- ---- a device that shares a folder

among : (shares : List (Device × FolderKind)) (device : Device) (kind : FolderKind) → Contains shares (device, kind) → is_among device shares ≡ true
among [] device kind member = absurd (not_in_none (device, kind) member)
among (first ∷ more) device kind member =
    ⊎_elim
    (λ same. ap (λ (b : Bool). b || is_among device more) (eq-eqb first.0 device (ap (λ (s : Device × FolderKind). s.0) same)))
    (λ later. either (first.0 == device) (among more device kind later))
    (Contains-cons_cases first more (device, kind) member)
  where
    either : (b : Bool) → is_among device more ≡ true → (b || is_among device more) ≡ true
    either true is = refl
    either false is = is

from_among : (shares : List (Device × FolderKind)) (device : Device) → is_among device shares ≡ true → (kind : FolderKind) × Contains shares (device, kind)
from_among [] device is = absurd (cc)
from_among (first ∷ more) device is = cases (first.0 == device) refl is (from_among more device)
  where
    cases : (b : Bool) → (first.0 == device) ≡ b → (b || is_among device more) ≡ true → (is_among device more ≡ true → (kind : FolderKind) × Contains more (device, kind)) → (kind : FolderKind) × Contains (first ∷ more) (device, kind)
    cases true same there later = (first.1, subst (λ (d : Device). Contains (first ∷ more) (d, first.1)) (eqb-true first.0 device same) (Contains-first first more))
    cases false apart there later = let found = later there in (found.0, Contains-more first more (device, found.0) found.1)

-- whether a device shares a folder can be decided, so it does where it's not refused for that
pub shares_where_not_absent : (config : Config) (device : Device) (folder : Folder) → ¬ (¬ SharesFolder config device folder) → SharesFolder config device folder
shares_where_not_absent config device folder not_absent =
    ⊎_elim
    (λ is. from_among (config.sharing folder) device is)
    (λ none. absurd (not_absent (λ shares. let is = among (config.sharing folder) device shares.0 shares.1 in let both : true ≡ false = sym is ∙ none in cc)))
    (cases_Bool (is_among device (config.sharing folder)))

-- of a device that shares the folder the tables tell its replica
pub said_here : (cluster : Cluster) (device : Device) (folder : Folder) (replica : Replica) → SharesFolder cluster.config device folder → get (cluster.peer device).replicas folder ≡ Some replica → replica_said cluster device folder ≡ Some replica
said_here cluster device folder replica shares here =
    ap (λ (b : Bool). if b then get (cluster.peer device).replicas folder else None) (among (cluster.config.sharing folder) device shares.0 shares.1) ∙ here

-- ---- one replica that changes

-- the replica of the folder at the device is another one
abbrev pub changed : Cluster → Device → Folder → Replica → Cluster
changed old device folder after = with_peer old device (with_replica (old.peer device) folder after)

module _ (old : Cluster) (device : Device) (folder : Folder) (after : Replica) where
  pub said_after : SharesFolder old.config device folder → replica_said (changed old device folder after) device folder ≡ Some after
  said_after shares =
      said_here (changed old device folder after) device folder after shares (ap (λ (b : Bool). get (if b then with_replica (old.peer device) folder after else old.peer device).replicas folder) (eq-eqb device device refl)
      ∙ get-insert_here nat_list_cmp_total exact_bytes (old.peer device).replicas folder after)

module _ (old : Cluster) (device : Device) (folder : Folder) (name : FileName) (before after : Replica) (here : get (old.peer device).replicas folder ≡ Some before) where
  -- all is as it was, but for the record and the file of the name there
  record IsSameBut (other : Device) (any : Folder) (one two : Option Replica) : Type 0 where
    own : (at : FileName) → ¬ ((other ≡ device) × (any ≡ folder) × (at ≡ name)) → looked_up own_at at two ≡ looked_up own_at at one
    node : (at : FileName) → ¬ ((other ≡ device) × (any ≡ folder) × (at ≡ name)) → looked_up node_at at two ≡ looked_up node_at at one
    viewed : (from : Device) (at : FileName) → looked_up (λ replica one. viewed_at replica from one) at two ≡ looked_up (λ replica one. viewed_at replica from one) at one
    target : (at : FileName) → looked_up target_at at two ≡ looked_up target_at at one

  all_same : (other : Device) (any : Folder) (one : Option Replica) → IsSameBut other any one one
  all_same other any one = record { own = λ at apart. refl; node = λ at apart. refl; viewed = λ from at. refl; target = λ at. refl }

  module _ (keeps : KeepsOtherNames name before after) where
    replica_same : IsSameBut device folder (Some before) (Some after)
    replica_same = record {
      own = λ at apart. keeps.records at (λ same. apart (refl, refl, same));
      node = λ at apart. keeps.files at (λ same. apart (refl, refl, same));
      viewed = λ from at. ap (λ (views : _). get (unwrap_or (get views from) (cleared 0)).records at) keeps.views;
      target = λ at. ap (λ (pulls : _). option_map (λ (pull : Pull). pull.target) (get pulls at)) keeps.pulls;
    }

    everywhere : Everywhere IsSameBut old (changed old device folder after)
    everywhere =
        where_one_changes IsSameBut all_same old device (with_replica (old.peer device) folder after)
        (at_each_folder (IsSameBut device) (all_same device) (old.peer device).replicas folder before after here replica_same)

    said : (other : Device) (any : Folder) → IsSameBut other any (replica_said old other any) (replica_said (changed old device folder after) other any)
    said other any = by_test (is_among other (old.config.sharing any))
      where
        by_test : (b : Bool) → IsSameBut other any (if b then get (old.peer other).replicas any else None) (if b then get ((changed old device folder after).peer other).replicas any else None)
        by_test true = everywhere other any
        by_test false = all_same other any None

    pub changes_alone : ChangesAlone (tables_of_cluster old) (tables_of_cluster (changed old device folder after)) device folder name
    changes_alone = record {
      sharing = λ any. refl;
      own = λ other any one apart. (said other any).own one apart;
      node = λ other any one apart. (said other any).node one apart;
      viewed = λ one other any at. (said one any).viewed other at;
      target = λ one any at. (said one any).target at;
      flying = λ sender receiver. refl;
    }
