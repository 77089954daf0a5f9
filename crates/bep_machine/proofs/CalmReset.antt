-- A device that is reset forgets its records and all that it has of others. Its files stay, and so does all else.
use Rattle.std.proofs.Common.{◌≡◌, ◌≢◌, ◌⊎◌, ◌==◌, ◌||◌, ℕ, Bool, true, false, List, [], Option, Some, None, Contains, option_map, unwrap_or, nat_lt, if◌then◌else◌, refl, sym, ap, subst, ◌∙◌, inl, inr, ⊎_elim}
use Rattle.std.proofs.lemmas.Bool.{cases_eq, eq-eqb}
use Rattle.std.proofs.lemmas.Option.{none-some}
use Rattle.std.specs.List.{flat_map}
use Rattle.std.specs.Ordering.{nat_cmp}
use Rattle.std.specs.Cmp.Lexicographic.{slice_cmp, nat_list_cmp_total}
use Rattle.std.specs.FinMap.{get, get-empty}
use Rattle.bep_facts.specs.Members.{not_in_none}
use Rattle.bep_record.specs.declared.entry.Entry.{Entry}
use Rattle.bep_record.specs.declared.node.NodeParts.{NodeParts}
use Rattle.bep_index.specs.Listing.{Listing}
use Rattle.bep_index.specs.View.{cleared}
use Rattle.bep_model.specs.declared.flight.Flight.{Flight}
use Rattle.bep_model.specs.Tables.{Device, Folder, FileName}
use Rattle.bep_model.specs.Foreign.{IsFlying, IsForeign}
use Rattle.bep_model.specs.Calm.{Contents, WasReset, NodeIsCalm, IsCalm, SameFile}
use Rattle.bep_machine.specs.declared.message.Message.{Message}
use Rattle.bep_machine.specs.Replica.{Pull, Replica, own_at, node_at, viewed_at, target_at}
use Rattle.bep_machine.specs.Link.{End, Lower, Upper, Link, lost, end_of, queue_to}
use Rattle.bep_machine.specs.Peer.{Peer}
use Rattle.bep_machine.specs.Cluster.{Cluster, link_between, with_peer, without_links}
use Rattle.bep_machine.specs.Steps.{restarted, anew_under, reset_to}
use Rattle.bep_machine.specs.Said.{is_among, replica_said, looked_up, flights_of, are_linked, on_its_way, tables_of_cluster}
use Rattle.bep_machine.proofs.CalmMoves.{AreQuietParts, flown_before, came_from}
use Rattle.bep_machine.proofs.CalmScan.{same_file}
use Rattle.bep_machine.proofs.CalmTables.{HasDue, IsForgotten, IsQuietMove}
use Rattle.bep_machine.proofs.FoundAfter.{get-mapped}
use Rattle.bep_machine.proofs.GapLinks.{peer_here, peer_apart}

-- what a restart and a reset of the device make of the cluster: the links are the same
abbrev pub after_restart : Cluster → Device → Cluster
after_restart old device = without_links (with_peer old device (restarted (old.peer device))) device

abbrev pub after_reset : Cluster → Device → ℕ → Cluster
after_reset old device id = without_links (with_peer old device (reset_to id (old.peer device))) device

-- ---- a replica that is begun anew

module _ (id : ℕ) (name : FileName) where
  own_gone : (found : Option Replica) → looked_up own_at name (option_map (anew_under id) found) ≡ None
  own_gone None = refl
  own_gone (Some replica) = get-empty (slice_cmp nat_cmp) name

  view_gone : (other : Device) (found : Option Replica) → looked_up (λ one at. viewed_at one other at) name (option_map (anew_under id) found) ≡ None
  view_gone other None = refl
  view_gone other (Some replica) =
      ap (λ (view : Option Listing). get (unwrap_or view (cleared 0)).records name) (get-empty nat_cmp other) ∙ get-empty (slice_cmp nat_cmp) name

  target_gone : (found : Option Replica) → looked_up target_at name (option_map (anew_under id) found) ≡ None
  target_gone None = refl
  target_gone (Some replica) = ap (option_map (λ (pull : Pull). pull.target)) (get-empty (slice_cmp nat_cmp) name)

  node_stays : (found : Option Replica) → looked_up node_at name (option_map (anew_under id) found) ≡ looked_up node_at name found
  node_stays None = refl
  node_stays (Some replica) = refl

-- ---- links that are lost

nothing_queued : (end : End) (link : Link) → queue_to end (lost link) ≡ []
nothing_queued Lower link = refl
nothing_queued Upper link = refl

lost_at : (old : Cluster) (device a b : Device) → (a ≡ device) ⊎ (b ≡ device) → (if (a == device) || (b == device) then lost (old.link a b) else old.link a b) ≡ lost (old.link a b)
lost_at old device a b touched =
    ⊎_elim
    (λ same. first (a == device) (b == device) (eq-eqb a device same))
    (λ same. second (a == device) (b == device) (eq-eqb b device same))
    touched
  where
    first : (p q : Bool) → p ≡ true → (if p || q then lost (old.link a b) else old.link a b) ≡ lost (old.link a b)
    first true q is = refl
    first false q is = absurd (cc)

    second : (p q : Bool) → q ≡ true → (if p || q then lost (old.link a b) else old.link a b) ≡ lost (old.link a b)
    second true q is = refl
    second false true is = refl
    second false false is = absurd (cc)

nothing_coming : (old : Cluster) (device : Device) (id : ℕ) (sender : Device) → queue_to (end_of device sender) (link_between (after_reset old device id) sender device) ≡ []
nothing_coming old device id sender = cases (nat_lt sender device)
  where
    cases : (t : Bool) → queue_to (end_of device sender) (if t then (after_reset old device id).link sender device else (after_reset old device id).link device sender) ≡ []
    cases true = ap (queue_to (end_of device sender)) (lost_at old device sender device (inr refl)) ∙ nothing_queued (end_of device sender) (old.link sender device)
    cases false = ap (queue_to (end_of device sender)) (lost_at old device device sender (inl refl)) ∙ nothing_queued (end_of device sender) (old.link device sender)

none_flies : (old : Cluster) (device : Device) (id : ℕ) (sender : Device) (flight : Flight) → ¬ Contains (on_its_way (after_reset old device id) sender device) flight
none_flies old device id sender flight flies =
    empty (are_linked old.config sender device)
    (subst (λ (queue : List Message). Contains (if are_linked old.config sender device then flat_map (flights_of old.config sender device) queue else []) flight) (nothing_coming old device id sender) flies)
  where
    empty : (linked : Bool) → ¬ Contains (if linked then flat_map (flights_of old.config sender device) [] else []) flight
    empty true none = not_in_none flight none
    empty false none = not_in_none flight none

-- ---- the tables

module _ (old : Cluster) (device : Device) (id : ℕ) where
  abbrev after : Cluster
  after = after_reset old device id

  said_here : (folder : Folder) → replica_said after device folder ≡ option_map (anew_under id) (replica_said old device folder)
  said_here folder =
      ap (λ (p : Peer). if is_among device (old.config.sharing folder) then get p.replicas folder else None) (peer_here old device (reset_to id (old.peer device)))
      ∙ by_test (is_among device (old.config.sharing folder))
    where
      by_test : (b : Bool) → (if b then get (reset_to id (old.peer device)).replicas folder else None) ≡ option_map (anew_under id) (if b then get (old.peer device).replicas folder else None)
      by_test true = get-mapped nat_list_cmp_total (anew_under id) (old.peer device).replicas folder
      by_test false = refl

  said_still : (one : Device) (folder : Folder) → one ≢ device → replica_said after one folder ≡ replica_said old one folder
  said_still one folder apart =
      ap (λ (p : Peer). if is_among one (old.config.sharing folder) then get p.replicas folder else None) (peer_apart old device (reset_to id (old.peer device)) one apart)

  own_none : (folder : Folder) (name : FileName) → (tables_of_cluster after).own device folder name ≡ None
  own_none folder name = ap (looked_up own_at name) (said_here folder) ∙ own_gone id name (replica_said old device folder)

  node_same : (one : Device) (folder : Folder) (name : FileName) → (tables_of_cluster after).node one folder name ≡ (tables_of_cluster old).node one folder name
  node_same one folder name =
      ⊎_elim
      (λ (here : one ≡ device).
      subst (λ (d : Device). (tables_of_cluster after).node d folder name ≡ (tables_of_cluster old).node d folder name) (sym here)
      (ap (looked_up node_at name) (said_here folder) ∙ node_stays id name (replica_said old device folder)))
      (λ apart. ap (looked_up node_at name) (said_still one folder apart))
      (cases_eq one device)

  -- nothing is foreign at the device
  none_foreign : (folder : Folder) (name : FileName) (entry : Entry) → ¬ IsForeign (tables_of_cluster after) device folder name entry
  none_foreign folder name entry foreign =
      ⊎_elim
      (λ viewed. none-some entry (sym (ap (looked_up (λ one at. viewed_at one viewed.0 at) name) (said_here folder) ∙ view_gone id name viewed.0 (replica_said old device folder)) ∙ viewed.1))
      (λ rest.
      ⊎_elim
      (λ flying. none_flies old device id flying.sender flying.flight flying.sent)
      (λ target. none-some entry (sym (ap (looked_up target_at name) (said_here folder) ∙ target_gone id name (replica_said old device folder)) ∙ target))
      rest)
      foreign.known_by

  module _ (contents : Contents) (reset : List Device) (was : WasReset reset device) (calm : IsCalm (tables_of_cluster old) contents reset) (parts : AreQuietParts contents old (after_restart old device)) where
    -- at another device it was so before
    foreign_still : (one : Device) (folder : Folder) (name : FileName) (entry : Entry) → one ≢ device → IsForeign (tables_of_cluster after) one folder name entry → IsForeign (tables_of_cluster old) one folder name entry ⊎ HasDue contents folder name entry
    foreign_still one folder name entry apart foreign =
        ⊎_elim
        (λ viewed. inl (record { known_by = inl (viewed.0, ap (looked_up (λ r at. viewed_at r viewed.0 at) name) (sym (said_still one folder apart)) ∙ viewed.1); valid = foreign.valid }))
        (λ rest.
        ⊎_elim
        (λ flying. flown flying)
        (λ target. inl (record { known_by = inr (inr (ap (looked_up target_at name) (sym (said_still one folder apart)) ∙ target)); valid = foreign.valid }))
        rest)
        foreign.known_by
      where
        flown : IsFlying (tables_of_cluster after) one folder name entry → IsForeign (tables_of_cluster old) one folder name entry ⊎ HasDue contents folder name entry
        flown flying =
            came_from contents old (after_restart old device) parts one folder name entry foreign.valid
            (flown_before contents old (after_restart old device) parts one folder name entry
            (record { sender = flying.sender; shares = flying.shares; flight = flying.flight; sent = flying.sent; same_folder = flying.same_folder; carried = flying.carried; same_name = flying.same_name }))

    pub reset_moves : IsQuietMove contents reset (tables_of_cluster old) (tables_of_cluster after)
    reset_moves = record {
      sharing = λ folder. refl;
      own = λ one folder name shares.
          ⊎_elim
          (λ (here : one ≡ device). inr (subst (λ (d : Device). IsForgotten reset (tables_of_cluster after) d folder name) (sym here) (record { was_reset = was; own = own_none folder name; foreign = none_foreign folder name })))
          (λ apart. inl (inl (ap (looked_up own_at name) (said_still one folder apart))))
          (cases_eq one device);
      file = λ one folder name. subst (λ (node : Option NodeParts). SameFile ((tables_of_cluster old).node one folder name) node) (sym (node_same one folder name)) (same_file _);
      clean = λ one folder name shares.
          ⊎_elim
          (λ (here : one ≡ device).
          subst (λ (d : Device). NodeIsCalm ((tables_of_cluster after).node d folder name) ((tables_of_cluster after).own d folder name)) (sym here)
          (subst (λ (own : Option Entry). NodeIsCalm ((tables_of_cluster after).node device folder name) own) (sym (own_none folder name)) tt))
          (λ apart.
          subst (λ (found : Option Replica). NodeIsCalm (looked_up node_at name found) (looked_up own_at name found)) (sym (said_still one folder apart)) (calm one folder name shares).node)
          (cases_eq one device);
      foreign = λ one folder name entry shares foreign.
          ⊎_elim
          (λ (here : one ≡ device). absurd (none_foreign folder name entry (subst (λ (d : Device). IsForeign (tables_of_cluster after) d folder name entry) here foreign)))
          (λ apart. foreign_still one folder name entry apart foreign)
          (cases_eq one device);
    }
