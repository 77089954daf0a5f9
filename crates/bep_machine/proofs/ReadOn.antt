-- What a device may learn over a link: own records and files stay, and records of others come from somewhere.
use Rattle.std.proofs.Common.{◌≡◌, ◌⊎◌, ◌==◌, ℕ, Bool, true, false, List, [], ◌∷◌, Option, Some, None, option_map, unwrap_or, refl, sym, ap, subst, ◌∙◌, inl, inr, ⊎_elim, if◌then◌else◌}
use Rattle.std.specs.Ordering.{nat_cmp}
use Rattle.std.specs.Cmp.Lexicographic.{slice_cmp}
use Rattle.std.specs.FinMap.{get, insert}
use Rattle.bep_facts.specs.Maps.{nothing_in_empty}
use Rattle.bep_map.specs.NameMap.{ByName}
use Rattle.bep_record.specs.declared.entry.Entry.{Entry}
use Rattle.bep_index.specs.Listing.{Listing}
use Rattle.bep_index.specs.View.{cleared}
use Rattle.bep_model.specs.Tables.{Device, Folder, FileName}
use Rattle.bep_model.specs.Calm.{NodeIsCalm, SameFile}
use Rattle.bep_machine.specs.declared.message.Announced.{Announced}
use Rattle.bep_machine.specs.declared.message.Request.{Request}
use Rattle.bep_machine.specs.Replica.{Pull, Replica, own_at, node_at, pull_at, target_at, view_of, viewed_at, with_view, with_pull}
use Rattle.bep_machine.specs.Exchange.{known_under, renewed, all_renewed, received_at, with_block}
use Rattle.bep_machine.specs.Said.{looked_up}
use Rattle.bep_machine.proofs.CalmMoves.{ElsewhereIn, IsQuietPlace}
use Rattle.bep_machine.proofs.CalmScan.{same_file}
use Rattle.bep_machine.proofs.Places.{each_name_after_insert, each_device_after_insert}

-- ---- a replica

pub record IsReadOn (Comes : FileName → Entry → Type 0) (old new : Option Replica) : Type 0 where
  pub own : (name : FileName) → looked_up own_at name new ≡ looked_up own_at name old
  pub node : (name : FileName) → looked_up node_at name new ≡ looked_up node_at name old
  pub elsewhere : (name : FileName) (entry : Entry) → ElsewhereIn new name entry → ElsewhereIn old name entry ⊎ Comes name entry

pub nothing_read : (Comes : FileName → Entry → Type 0) (replica : Option Replica) → IsReadOn Comes replica replica
nothing_read Comes replica = record { own = λ name. refl; node = λ name. refl; elsewhere = λ name entry was. inl was }

read_then : (Comes : FileName → Entry → Type 0) (first second third : Option Replica) → IsReadOn Comes first second → IsReadOn Comes second third → IsReadOn Comes first third
read_then Comes first second third one two = record {
  own = λ name. two.own name ∙ one.own name;
  node = λ name. two.node name ∙ one.node name;
  elsewhere = λ name entry has. ⊎_elim (λ was. one.elsewhere name entry was) (λ comes. inr comes) (two.elsewhere name entry has);
}

-- it is a quiet change
pub quiet_where_read : (Comes More : FileName → Entry → Type 0) (receives : Type 0) → ((name : FileName) (entry : Entry) → Comes name entry → More name entry) → (old new : Option Replica) → IsReadOn Comes old new → IsQuietPlace More receives old new
quiet_where_read Comes More receives more old new read = record {
  own = λ name. inl (read.own name);
  file = λ name. subst (λ node. SameFile (looked_up node_at name old) node) (sym (read.node name)) (same_file _);
  clean = λ name clean. subst (λ node. NodeIsCalm node (looked_up own_at name new)) (sym (read.node name)) (subst (λ own. NodeIsCalm (looked_up node_at name old) own) (sym (read.own name)) clean);
  elsewhere = λ name entry has. ⊎_elim (λ was. inl was) (λ comes. inr (more name entry comes)) (read.elsewhere name entry has);
}

module _ (Comes : FileName → Entry → Type 0) (replica : Replica) where
  -- another view of a device, each record of which was seen there before or comes
  pub read_with_view : (other : Device) (view : Listing) → ((name : FileName) (entry : Entry) → get view.records name ≡ Some entry → (viewed_at replica other name ≡ Some entry) ⊎ Comes name entry) → IsReadOn Comes (Some replica) (Some (with_view replica other view))
  read_with_view other view seen = record {
    own = λ name. refl;
    node = λ name. refl;
    elsewhere = λ name entry has. ⊎_elim (λ viewed. viewed_before name entry viewed.0 viewed.1) (λ target. inl (inr target)) has;
  }
    where
      viewed_before : (name : FileName) (entry : Entry) (one : Device) → viewed_at (with_view replica other view) one name ≡ Some entry → ElsewhereIn (Some replica) name entry ⊎ Comes name entry
      viewed_before name entry = each_device_after_insert
          (λ one found. get (unwrap_or found (cleared 0)).records name ≡ Some entry → ElsewhereIn (Some replica) name entry ⊎ Comes name entry)
          replica.views other view
          (λ here. ⊎_elim (λ was. inl (inl (other, was))) (λ comes. inr comes) (seen name entry here))
          (λ one was. inl (inl (one, was)))

  -- a pull goes on with the same target
  pub read_with_pull : (name : FileName) (pull : Pull) → target_at replica name ≡ Some pull.target → IsReadOn Comes (Some replica) (Some (with_pull replica name pull))
  read_with_pull name pull same = record {
    own = λ at_name. refl;
    node = λ at_name. refl;
    elsewhere = λ at_name entry has. ⊎_elim (λ viewed. inl (inl viewed)) (λ target. target_before entry at_name target) has;
  }
    where
      target_before : (entry : Entry) (at_name : FileName) → target_at (with_pull replica name pull) at_name ≡ Some entry → ElsewhereIn (Some replica) at_name entry ⊎ Comes at_name entry
      target_before entry = each_name_after_insert
          (λ at_name found. option_map (λ (one : Pull). one.target) found ≡ Some entry → ElsewhereIn (Some replica) at_name entry ⊎ Comes at_name entry)
          replica.pulls name pull
          (λ here. inl (inr (same ∙ here)))
          (λ at_name was. inl (inr was))

  pub read_with_block : (request : Request) (bytes : List ℕ) → IsReadOn Comes (Some replica) (Some (with_block request bytes (pull_at replica request.name) replica))
  read_with_block request bytes = cases (pull_at replica request.name) refl
    where
      cases : (found : Option Pull) → pull_at replica request.name ≡ found → IsReadOn Comes (Some replica) (Some (with_block request bytes found replica))
      cases None is = nothing_read Comes (Some replica)
      cases (Some pull) is = read_with_pull request.name (record pull { received = received_at request bytes pull.target.blocks pull.received }) (ap (option_map (λ (one : Pull). one.target)) is)

-- ---- the replicas of a device

abbrev pub AreReadOn : (Folder → FileName → Entry → Type 0) → ByName Replica → ByName Replica → Type 0
AreReadOn Comes old new = (folder : Folder) → IsReadOn (Comes folder) (get old folder) (get new folder)

module _ (Comes : Folder → FileName → Entry → Type 0) where
  pub none_read : (replicas : ByName Replica) → AreReadOn Comes replicas replicas
  none_read replicas folder = nothing_read (Comes folder) _

  pub one_read : (replicas : ByName Replica) (folder : Folder) (before after : Replica) → get replicas folder ≡ Some before → IsReadOn (Comes folder) (Some before) (Some after) → AreReadOn Comes replicas (insert replicas folder after)
  one_read replicas folder before after here read = each_name_after_insert
      (λ in_folder replica. IsReadOn (Comes in_folder) (get replicas in_folder) replica)
      replicas folder after
      (subst (λ replica. IsReadOn (Comes folder) replica (Some after)) (sym here) read)
      (λ in_folder. nothing_read (Comes in_folder) _)

  -- a view under another id is cleared
  known_was_there : (view : Listing) (id : ℕ) (name : FileName) (entry : Entry) → get (known_under id view).records name ≡ Some entry → get view.records name ≡ Some entry
  known_was_there view id name entry = cases (view.id == id)
    where
      cases : (same : Bool) → get (if same then view else cleared id).records name ≡ Some entry → get view.records name ≡ Some entry
      cases true has = has
      cases false has = nothing_in_empty (slice_cmp nat_cmp) name entry has

  renewed_read : (other : Device) (one : Announced) (replicas : ByName Replica) (found : Option Replica) → get replicas one.folder ≡ found → AreReadOn Comes replicas (renewed other one found replicas)
  renewed_read other one replicas None is = none_read replicas
  renewed_read other one replicas (Some replica) is =
      one_read replicas one.folder replica _ is
      (read_with_view (Comes one.folder) replica other (known_under one.index_id (view_of replica other))
      (λ name entry has. inl (known_was_there (view_of replica other) one.index_id name entry has)))

  pub all_renewed_read : (other : Device) (named : List Announced) (replicas : ByName Replica) → AreReadOn Comes replicas (all_renewed other named replicas)
  all_renewed_read other [] replicas folder = nothing_read (Comes folder) _
  all_renewed_read other (one ∷ named) replicas folder =
      read_then (Comes folder) _ _ _ (renewed_read other one replicas (get replicas one.folder) refl folder)
      (all_renewed_read other named (renewed other one (get replicas one.folder) replicas) folder)
