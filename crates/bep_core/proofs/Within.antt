-- A step of one device within one of its folders is a step of the whole cluster.
use Rattle.std.proofs.Common.{◌≡◌, ◌⊎◌, ℕ, List, get_or, Some, None, Result, Ok, Err, Contains, refl, sym, ap, subst, ◌∙◌, inl, inr, ⊎_elim, option_map}
use Rattle.std.specs.Bool.{⊤}
use Rattle.std.specs.FinMap.{get}
use Rattle.std.specs.List.{position}
use Rattle.std.proofs.lemmas.List.Quantifiers.{position-Some}
use Rattle.bep_model.specs.Tables.{Device, Folder}
use Rattle.bep_machine.specs.declared.moved.Moved.{Moved}
use Rattle.bep_machine.specs.declared.refusal.Refusal.TheVariants.{NotShared}
use Rattle.bep_machine.specs.Answer.{Answer, Done, OutOfMemory, Refused as Refuses, Row, becomes, ◌answers◌when◌else◌}
use Rattle.bep_machine.specs.Cluster.{Cluster, with_peer}
use Rattle.bep_machine.specs.Replica.{Replica}
use Rattle.bep_machine.specs.Peer.{Peer, with_replica}
use Rattle.bep_machine.specs.Steps.{AtReplica, SharesFolder}
use Rattle.bep_folder.specs.Held.{Held}
use Rattle.bep_peer.specs.declared.error.PeerError.{PeerError}
use Rattle.bep_peer.specs.declared.error.PeerError.TheVariants as peer
use Rattle.bep_peer.specs.Member.{Member, tables_of}
use Rattle.bep_peer.specs.PeerError.{Gives as GivesThere}
use Rattle.bep_peer.specs.Within.{StepWithin}
use Rattle.bep_peer.specs.network.Network.{Network, IsNetwork, is_number, cluster_of, config_of, member_at, peer_of}
use Rattle.bep_core.specs.Why.{Gives, answer_of}
use Rattle.bep_core.proofs.AtLinks.{first_found}
use Rattle.bep_peer.proofs.Numbers.{same_number}
use Rattle.bep_peer.proofs.Changed.{tables_at}
use Rattle.bep_core.proofs.OneDevice.{Replaces, with_member, one_device, nothing_changed}
use Rattle.bep_peer.proofs.RowsKeep.{Keeps}
use Rattle.bep_core.proofs.SameFolders.{SameFolders, equal_folders, folder_changed}
use Rattle.bep_peer.proofs.Members.{absent_shares_none, without_shares_none}

-- a step that grows, where `there` is all that it names, and the row that it makes
abbrev pub StepOf : Type 0 → Row Cluster → Cluster → Row Cluster
StepOf there row old new answer =
    (⊤ × becomes old OutOfMemory new answer) ⊎ (old answers Refuses NotShared when ¬ there else row) new answer

-- what a device answers is answered by the cluster, where its row is one of the cluster's
pub carried : {S T : Type 0} (row : Row S) (new : S) (other : Row T) (later : T) → ((answer : Answer) → row new answer → other later answer) → (result : Result Moved PeerError) → GivesThere row new result → Gives other later (answer_of result)
carried row new other later on (Ok moved) is = on (Done moved) is
carried row new other later on (Err (peer.Refused refusal)) is = on (Refuses refusal) is
carried row new other later on (Err peer.Stale) is = absurd is
carried row new other later on (Err peer.Memory) is = on OutOfMemory is

-- whatever the answer, what the row makes holds
pub whichever : {S : Type 0} {P : Type 0} (row : Row S) (new : S) → ((answer : Answer) → row new answer → P) → (result : Result Moved PeerError) → GivesThere row new result → P
whichever row new on (Ok moved) is = on (Done moved) is
whichever row new on (Err (peer.Refused refusal)) is = on (Refuses refusal) is
whichever row new on (Err peer.Stale) is = absurd is
whichever row new on (Err peer.Memory) is = on OutOfMemory is

module _ (folder : Folder) (row : Replica → Row Replica) where
  -- the device has the same folders as before
  pub within_keeps : ((replica : Replica) → Keeps replica (row replica)) → (was after : Member) (answer : Answer) → StepWithin folder row was after answer → SameFolders (tables_of was).replicas (tables_of after).replicas
  within_keeps keeps was after answer step =
      ⊎_elim
      (λ wanting. equal_folders _ _ (ap (λ (p : Peer). p.replicas) wanting.0))
      (λ rest.
      ⊎_elim
      (λ refused. equal_folders _ _ (ap (λ (m : Member). (tables_of m).replicas) refused.1.0))
      (λ made.
      subst (λ (p : Peer). SameFolders (tables_of was).replicas p.replicas) (sym made.1.4)
      (folder_changed (tables_of was).replicas folder made.1.0 made.1.1 made.1.2 (keeps made.1.0 made.1.1 answer made.1.3)))
      rest)
      step

  module _ (network : Network) (rules : IsNetwork network) (device : Device) (place : ℕ) (was after : Member) (r : Replaces network.members device place was after) where
    -- the whole cluster makes the row at the device's replica
    pub within : (answer : Answer) → StepWithin folder row was after answer → StepOf (SharesFolder (config_of network) device folder) (AtReplica device folder row (cluster_of network)) (cluster_of network) (cluster_of (with_member network place after)) answer
    within answer step =
        ⊎_elim
        (λ wanting. inl (tt, (nothing_changed network device place was after r wanting.0, wanting.1)))
        (λ rest.
        ⊎_elim
        (λ refused.
        let none = tables_at was.folders folder ∙ ap (option_map (λ (held : Held). held.tables)) refused.0 in
        inr (inl (without_shares_none network device folder was rules.devices r.found none, (nothing_changed network device place was after r (ap tables_of refused.1.0), refused.1.1))))
        (λ made.
        let there : SharesFolder (config_of network) device folder = (made.1.0.kind, subst (λ (n : Device). Contains ((config_of network).sharing folder) (n, made.1.0.kind)) r.number ((rules.joined device was r.found).folders folder made.1.0 made.1.2).kind) in
        let here : peer_of (member_at network.members device) ≡ tables_of was = ap peer_of r.found in
        inr (inr (
          λ absent. absent there,
          (
            made.1.0,
            made.1.1,
            ap (λ (p : Peer). get p.replicas folder) here ∙ made.1.2,
            made.1.3,
            one_device network device place was after r
                ∙ ap (with_peer (cluster_of network) device) (made.1.4 ∙ ap (λ (p : Peer). with_replica p folder made.1.1) (sym here)),
          ),
        )))
        rest)
        step

-- a step that can't be made, as the device isn't there
pub absent : (network : Network) (device : Device) (folder : Folder) (row : Row Cluster) → IsNetwork network → member_at network.members device ≡ None → StepOf (SharesFolder (config_of network) device folder) row (cluster_of network) (cluster_of network) (Refuses NotShared)
absent network device folder row rules none = inr (inl (absent_shares_none network device folder rules.devices none, (refl, refl)))

-- the device at the place where the search found it
pub replaces : (members : List Member) (device : Device) (place : ℕ) (was after : Member) → position (is_number device) members ≡ Some place → was ≡ get_or members place was →
    after.number ≡ was.number → after.linked ≡ was.linked → SameFolders (tables_of was).replicas (tables_of after).replicas → Replaces members device place was after
replaces members device place was after is value same linked folders =
    let first = first_found (is_number device) members place was is in
    record {
      first = first.0;
      there = first.1;
      is = sym value;
      found = first.2 ∙ ap Some (sym value);
      number = same_number was.number device (ap (is_number device) value ∙ (position-Some (is_number device) members place was is).1);
      same = same;
      linked = linked;
      folders = folders;
    }
