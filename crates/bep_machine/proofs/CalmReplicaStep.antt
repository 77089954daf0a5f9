-- A calm cluster is calm at each replica, and a quiet change of one replica is a quiet move.
use Rattle.std.proofs.Common.{◌≡◌, false, List, Some, None, refl, sym, ap, subst, ◌∙◌, inl, inr, ⊎_elim}
use Rattle.std.specs.FinMap.{get}
use Rattle.bep_record.specs.declared.entry.Entry.{Entry}
use Rattle.bep_model.specs.Tables.{Device, Folder, FileName, Shares}
use Rattle.bep_model.specs.Foreign.{IsForeign}
use Rattle.bep_model.specs.Calm.{Contents, content_due, OwnIsCalm, WasReset, OnlyReceives, StoreIsCalm, NodeIsCalm, IsCalmBeside, IsCalm}
use Rattle.bep_machine.specs.Replica.{Replica, own_at, node_at, viewed_at, target_at}
use Rattle.bep_machine.specs.Peer.{with_replica}
use Rattle.bep_machine.specs.Cluster.{Cluster, with_peer}
use Rattle.bep_machine.specs.Said.{replica_said, looked_up, tables_of_cluster}
use Rattle.bep_machine.proofs.CalmParts.{IsElsewhere, IsCalmReplica, IsQuietChange}
use Rattle.bep_machine.proofs.CalmMoves.{IsQuietPlace, IsComing, AreQuietParts, quiet_where_same}
use Rattle.bep_machine.proofs.SaidReplicas.{said_where_shared}
use Rattle.bep_machine.proofs.Places.{each_name_after_insert, each_after_change}

-- ---- a replica of a calm cluster

module _ (contents : Contents) (reset : List Device) (cluster : Cluster) (calm : IsCalm (tables_of_cluster cluster) contents reset) (device : Device) (folder : Folder) (replica : Replica) (shares : Shares (tables_of_cluster cluster) device folder) (here : get (cluster.peer device).replicas folder ≡ Some replica) where
  said : replica_said cluster device folder ≡ Some replica
  said = said_where_shared cluster device folder shares ∙ here

  elsewhere_is_foreign : (name : FileName) (entry : Entry) → IsElsewhere replica name entry → entry.invalid ≡ false → IsForeign (tables_of_cluster cluster) device folder name entry
  elsewhere_is_foreign name entry has valid = record {
    known_by = ⊎_elim
        (λ viewed. inl (viewed.0, ap (looked_up (λ one name. viewed_at one viewed.0 name) name) said ∙ viewed.1))
        (λ target. inr (inr (ap (looked_up target_at name) said ∙ target)))
        has;
    valid = valid;
  }

  -- it is calm at each name
  pub calm_replica : IsCalmReplica (WasReset reset device) (OnlyReceives (tables_of_cluster cluster) device folder) (contents folder) replica
  calm_replica name =
      let at = calm device folder name shares in
      record {
        own = subst (λ one. OwnIsCalm (WasReset reset device) (OnlyReceives (tables_of_cluster cluster) device folder) (looked_up own_at name one) (content_due (contents folder name))) said at.own;
        store = subst (λ one. StoreIsCalm (looked_up node_at name one) (content_due (contents folder name))) said at.store;
        node = subst (λ one. NodeIsCalm (looked_up node_at name one) (looked_up own_at name one)) said at.node;
        elsewhere = λ entry has valid. subst (λ one. IsCalmBeside (looked_up own_at name one) (content_due (contents folder name)) entry) said (at.foreign entry (elsewhere_is_foreign name entry has valid));
        unlisted = λ none. (
          subst (λ one. looked_up own_at name one ≡ None) said (at.unlisted none).own,
          λ entry has valid. (at.unlisted none).foreign entry (elsewhere_is_foreign name entry has valid),
        );
      }

-- ---- a quiet change of one replica

quiet_place : (Comes : FileName → Entry → Type 0) (receives : Type 0) (old new : Replica) → IsQuietChange receives old new → IsQuietPlace Comes receives (Some old) (Some new)
quiet_place Comes receives old new change = record {
  own = change.own;
  file = change.file;
  clean = λ name _. change.clean name;
  elsewhere = λ name entry has. inl (⊎_elim (λ viewed. inl (viewed.0, sym (change.viewed viewed.0 name) ∙ viewed.1)) (λ target. change.target name entry target) has);
}

pub quiet_parts_of_change : (contents : Contents) (cluster : Cluster) (device : Device) (folder : Folder) (before after : Replica) → get (cluster.peer device).replicas folder ≡ Some before → IsQuietChange (OnlyReceives (tables_of_cluster cluster) device folder) before after → AreQuietParts contents cluster (with_peer cluster device (with_replica (cluster.peer device) folder after))
quiet_parts_of_change contents cluster device folder before after here change = record {
  config = refl;
  places = each_after_change
      (λ one peer. (in_folder : Folder) → IsQuietPlace (IsComing contents cluster one in_folder) (OnlyReceives (tables_of_cluster cluster) one in_folder) (get (cluster.peer one).replicas in_folder) (get peer.replicas in_folder))
      cluster.peer device (with_replica (cluster.peer device) folder after)
      (each_name_after_insert
      (λ in_folder replica. IsQuietPlace (IsComing contents cluster device in_folder) (OnlyReceives (tables_of_cluster cluster) device in_folder) (get (cluster.peer device).replicas in_folder) replica)
      (cluster.peer device).replicas folder after
      (subst (λ replica. IsQuietPlace (IsComing contents cluster device folder) (OnlyReceives (tables_of_cluster cluster) device folder) replica (Some after)) (sym here) (quiet_place _ _ before after change))
      (λ in_folder. quiet_where_same _ _ _))
      (λ one in_folder. quiet_where_same _ _ _);
  flights = λ sender receiver flight sent. inl sent;
}
