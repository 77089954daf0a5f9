-- What is seen of a replica is so of the cluster.
use Rattle.std.proofs.Common.{◌≡◌, ◌∙◌, ◌≤◌, ◌↔◌, ℕ, Bool, IsTrue, true, false, List, Option, option_map, Some, None, refl, sym, ap, subst, subst₂, if◌then◌else◌}
use Rattle.std.proofs.lemmas.Option.{same_Some}
use Rattle.std.specs.Cmp.Lexicographic.{slice_cmp}
use Rattle.std.specs.FinMap.{get, get-empty}
use Rattle.std.specs.Ordering.{nat_cmp}
use Rattle.bep_record.specs.declared.entry.Entry.{Entry}
use Rattle.bep_model.specs.Tables.{Device, Folder, FileName}
use Rattle.bep_machine.specs.Cluster.{Cluster}
use Rattle.bep_machine.specs.Replica.{Pull, Replica, own_at, pull_at, view_of}
use Rattle.bep_machine.specs.Said.{is_among, looked_up, tables_of_cluster}
use Rattle.bep_folder.specs.Held.{Held}
use Rattle.bep_peer.specs.Laws.{TablesAreFound}
use Rattle.bep_peer.specs.Member.{Member}
use Rattle.bep_peer.specs.network.Network.{member_at, peer_of}
use Rattle.bep_converge.specs.Watched.{HasHeardUpTo, IsUnfinished, LacksBlocks}

-- ---- a device's replica of a folder

pub no_peer : (members : List Member) (device : Device) (folder : Folder) → None ≡ member_at members device → None ≡ get (peer_of (member_at members device)).replicas folder
no_peer members device folder none =
    sym (ap (λ (o : Option Member). get (peer_of o).replicas folder) (sym none) ∙ get-empty {X = Replica} (slice_cmp nat_cmp) folder)

pub peer_has : TablesAreFound → (members : List Member) (device : Device) (folder : Folder) (member : Member) (held : Option Held) → Some member ≡ member_at members device → held ≡ get member.folders folder →
    option_map (λ (h : Held). h.tables) held ≡ get (peer_of (member_at members device)).replicas folder
peer_has found members device folder member held there is =
    ap (option_map (λ (h : Held). h.tables)) is ∙ sym (found member folder) ∙ ap (λ (o : Option Member). get (peer_of o).replicas folder) there

-- ---- the owner's record

-- a record in the tables is in a replica
pub owned_replica : (c : Cluster) (owner : Device) (folder : Folder) (name : FileName) (top : Entry) → (tables_of_cluster c).own owner folder name ≡ Some top →
    (replica : Replica) × (get (c.peer owner).replicas folder ≡ Some replica) × (own_at replica name ≡ Some top)
owned_replica c owner folder name top owned = cases (is_among owner (c.config.sharing folder)) (get (c.peer owner).replicas folder) refl owned
  where
    cases : (b : Bool) (o : Option Replica) → get (c.peer owner).replicas folder ≡ o → looked_up own_at name (if b then o else None) ≡ Some top →
        (replica : Replica) × (get (c.peer owner).replicas folder ≡ Some replica) × (own_at replica name ≡ Some top)
    cases true (Some replica) is e = (replica, is, e)
    cases true None is e = absurd (cc)
    cases false o is e = absurd (cc)

-- ---- the device has heard of the owner's index

pub not_heard : (c : Cluster) (device owner : Device) (folder : Folder) (sequence : ℕ) → get (c.peer device).replicas folder ≡ None → ¬ HasHeardUpTo c device owner folder sequence
not_heard c device owner folder sequence none heard = let there = sym heard.1 ∙ none in cc

pub heard_here : (c : Cluster) (device owner : Device) (folder : Folder) (sequence : ℕ) (replica : Replica) → get (c.peer device).replicas folder ≡ Some replica → HasHeardUpTo c device owner folder sequence →
    sequence ≤ (view_of replica owner).sequence
heard_here c device owner folder sequence replica there heard =
    subst (λ (r : Replica). sequence ≤ (view_of r owner).sequence) (same_Some heard.0 replica (sym heard.1 ∙ there)) heard.2

pub heard_if : (c : Cluster) (device owner : Device) (folder : Folder) (sequence heard : ℕ) (replica : Replica) (b : Bool) → Some replica ≡ get (c.peer device).replicas folder → heard ≡ (view_of replica owner).sequence →
    (IsTrue b → sequence ≤ heard) → (sequence ≤ heard → IsTrue b) → (IsTrue b ↔ HasHeardUpTo c device owner folder sequence)
heard_if c device owner folder sequence heard replica b there is up to =
    (λ yes. (replica, sym there, subst (λ (n : ℕ). sequence ≤ n) is (up yes)), λ has. to (subst (λ (n : ℕ). sequence ≤ n) (sym is) (heard_here c device owner folder sequence replica (sym there) has)))

-- ---- blocks are missing

pub no_replica : (c : Cluster) (device : Device) (folder : Folder) (name : FileName) → get (c.peer device).replicas folder ≡ None → ¬ LacksBlocks c device folder name
no_replica c device folder name none lacks = let there = sym lacks.2 ∙ none in cc

pub no_pull : (c : Cluster) (device : Device) (folder : Folder) (name : FileName) (replica : Replica) → get (c.peer device).replicas folder ≡ Some replica → pull_at replica name ≡ None → ¬ LacksBlocks c device folder name
no_pull c device folder name replica there none lacks =
    let same : lacks.0 ≡ replica = same_Some lacks.0 replica (sym lacks.2 ∙ there) in
    let pulled : pull_at replica name ≡ Some lacks.1 = subst (λ (r : Replica). pull_at r name ≡ Some lacks.1) same lacks.3 in
    let never = sym none ∙ pulled in
    cc

pub lacks_here : (c : Cluster) (device : Device) (folder : Folder) (name : FileName) (replica : Replica) (pull : Pull) → get (c.peer device).replicas folder ≡ Some replica → pull_at replica name ≡ Some pull →
    LacksBlocks c device folder name → IsUnfinished replica name pull
lacks_here c device folder name replica pull there pulled lacks =
    let same : lacks.0 ≡ replica = same_Some lacks.0 replica (sym lacks.2 ∙ there) in
    let same_pull : lacks.1 ≡ pull = same_Some lacks.1 pull (sym (subst (λ (r : Replica). pull_at r name ≡ Some lacks.1) same lacks.3) ∙ pulled) in
    subst₂ (λ (r : Replica) (p : Pull). IsUnfinished r name p) same same_pull lacks.4

pub lacks_if : (c : Cluster) (device : Device) (folder : Folder) (name : FileName) (replica : Replica) (pull : Pull) (b : Bool) → Some replica ≡ get (c.peer device).replicas folder → Some pull ≡ pull_at replica name →
    (IsTrue b ↔ IsUnfinished replica name pull) → (IsTrue b ↔ LacksBlocks c device folder name)
lacks_if c device folder name replica pull b there pulled is =
    (λ yes. (replica, pull, sym there, sym pulled, is.0 yes), λ lacks. is.1 (lacks_here c device folder name replica pull (sym there) (sym pulled) lacks))
