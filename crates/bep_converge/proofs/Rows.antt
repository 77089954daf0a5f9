-- How what holds of every outcome of a row is shown, and what a step of the cluster leaves at each device.
use Rattle.std.proofs.Common.{◌≡◌, ◌⊎◌, ◌==◌, Bool, true, false, cond, nat_lt, Option, Some, refl, sym, subst, ⊎_elim, if◌then◌else◌}
use Rattle.std.proofs.lemmas.Bool.{eqb-true}
use Rattle.std.proofs.lemmas.Cmp.{nat_list_cmp_total}
use Rattle.std.proofs.lemmas.Map.Lookups.{exact_bytes}
use Rattle.std.specs.Ordering.{nat_cmp, eq_by_cmp}
use Rattle.std.specs.Cmp.Lexicographic.{slice_cmp}
use Rattle.std.specs.FinMap.{get, insert, get-insert}
use Rattle.bep_facts.specs.Maps.{same_key}
use Rattle.bep_map.specs.NameMap.{ByName}
use Rattle.bep_model.specs.Tables.{Device, Folder}
use Rattle.bep_machine.specs.Answer.{Answer, Row, becomes}
use Rattle.bep_machine.specs.Replica.{Replica}
use Rattle.bep_machine.specs.Link.{Link}
use Rattle.bep_machine.specs.Peer.{Peer, with_replica}
use Rattle.bep_machine.specs.Cluster.{Cluster, with_link, with_link_between, with_peer}
use Rattle.bep_machine.specs.Steps.{AtReplica}

-- what holds of a state holds of each outcome that is this state
pub where_becomes : {S : Type 0} {made new : S} {given answer : Answer} (Q : S → Type 0) → becomes made given new answer → Q made → Q new
where_becomes Q is holds = subst Q (sym is.0) holds

-- where it holds of the old state and of each outcome of the rest, it holds of each of the whole
pub where_answers : {S : Type 0} {old new : S} {given answer : Answer} {condition R : Type 0} (Q : S → Type 0) → (condition × becomes old given new answer) ⊎ ((¬ condition) × R) → Q old → ((¬ condition) → R → Q new) → Q new
where_answers Q row holds rest = ⊎_elim (λ refused. where_becomes Q refused.1 holds) (λ passed. rest passed.0 passed.1) row

-- ---- replicas of a device

-- what holds of each replica that stays, and of one that is put, holds at each folder
pub at_each_folder : (P : Folder → Option Replica → Option Replica → Type 0) → ((folder : Folder) (replica : Option Replica) → P folder replica replica) →
    (replicas : ByName Replica) (folder : Folder) (before after : Replica) → get replicas folder ≡ Some before → P folder (Some before) (Some after) →
    (other : Folder) → P other (get replicas other) (get (insert replicas folder after) other)
at_each_folder P stays replicas folder before after here changed other =
    subst (P other (get replicas other)) (sym (get-insert nat_list_cmp_total replicas folder after other)) (there (eq_by_cmp (slice_cmp nat_cmp) other folder) refl)
  where
    there : (b : Bool) → eq_by_cmp (slice_cmp nat_cmp) other folder ≡ b → P other (get replicas other) (cond b (Some after) (get replicas other))
    there true tied =
        subst (λ (f : Folder). P f (get replicas f) (Some after)) (sym (same_key exact_bytes other folder tied))
        (subst (λ (r : Option Replica). P folder r (Some after)) (sym here) changed)
    there false apart = stays other (get replicas other)

-- ---- devices of a cluster

-- a relation of what a device has of a folder before and afterwards
abbrev pub Change : Type 1
Change = Device → Folder → Option Replica → Option Replica → Type 0

-- it holds of each folder at each device
abbrev pub Everywhere : Change → Cluster → Cluster → Type 0
Everywhere P old new = (device : Device) (folder : Folder) → P device folder (get (old.peer device).replicas folder) (get (new.peer device).replicas folder)

module _ (P : Change) (stays : (device : Device) (folder : Folder) (replica : Option Replica) → P device folder replica replica) where
  pub nothing_changes : (old : Cluster) → Everywhere P old old
  nothing_changes old device folder = stays device folder (get (old.peer device).replicas folder)

  -- one device changes
  pub where_one_changes : (old : Cluster) (device : Device) (peer : Peer) → ((folder : Folder) → P device folder (get (old.peer device).replicas folder) (get peer.replicas folder)) → Everywhere P old (with_peer old device peer)
  where_one_changes old device peer changed other folder = there (other == device) refl
    where
      there : (b : Bool) → (other == device) ≡ b → P other folder (get (old.peer other).replicas folder) (get (if b then peer else old.peer other).replicas folder)
      there true same = subst (λ (d : Device). P d folder (get (old.peer d).replicas folder) (get peer.replicas folder)) (sym (eqb-true other device same)) (changed folder)
      there false apart = stays other folder (get (old.peer other).replicas folder)

  -- links are no matter
  pub where_link_changes : (old new : Cluster) (device other : Device) (link : Link) → Everywhere P old new → Everywhere P old (with_link_between new device other link)
  where_link_changes old new device other link changed one folder = there (nat_lt device other)
    where
      there : (b : Bool) → P one folder (get (old.peer one).replicas folder) (get ((if b then with_link new device other link else with_link new other device link).peer one).replicas folder)
      there true = changed one folder
      there false = changed one folder

  -- one replica changes
  pub where_replica_changes : (old new : Cluster) (device : Device) (folder : Folder) (row : Replica → Row Replica) (answer : Answer) →
      ((before after : Replica) → get (old.peer device).replicas folder ≡ Some before → row before after answer → P device folder (Some before) (Some after)) →
      AtReplica device folder row old new answer → Everywhere P old new
  where_replica_changes old new device folder row answer changed made =
      subst (λ (one : Cluster). Everywhere P old one) (sym made.4)
      (where_one_changes old device (with_replica (old.peer device) folder made.1)
      (at_each_folder (P device) (stays device) (old.peer device).replicas folder made.0 made.1 made.2 (changed made.0 made.1 made.2 made.3)))
