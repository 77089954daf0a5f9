-- Devices with the same numbers and tables make the same cluster, whatever their last actions told.
use Rattle.std.proofs.Common.{◌≡◌, ◌==◌, ◌∙◌, Bool, true, false, cond, List, [], ◌∷◌, ◌++◌, map, flat_map, Option, Some, None, refl, sym, ap, subst, ◌≤◌, length}
use Rattle.std.proofs.Math.Path.{fun_ext}
use Rattle.std.specs.List.{find}
use Rattle.std.specs.FinMap.{empty, get}
use Rattle.bep_record.specs.declared.folder_kind.FolderKind.{FolderKind}
use Rattle.bep_model.specs.Tables.{Device, Folder}
use Rattle.bep_machine.specs.Cluster.{Cluster}
use Rattle.bep_machine.specs.Peer.{Peer}
use Rattle.bep_links.specs.Link.{LinkBetween}
use Rattle.bep_peer.specs.Member.{Member, tables_of}
use Rattle.bep_peer.specs.network.Network.{between_at, ends_of, kind_of, link_of, member_at, numbers_of, peer_of, sharing_of}
use Rattle.std.specs.List.{AllByRecursion}
use Rattle.bep_facts.specs.Members.{holds_of_member}
use Rattle.bep_machine.specs.Sound.{IsSound}
use Rattle.bep_peer.specs.network.Agreed.{network_of}
use Rattle.bep_tables.specs.declared.cut.CutParts.{CutParts}
use Rattle.bep_cut.specs.Cut.{Seen, cut_at, parts_at, seen}
use Rattle.bep_cut.specs.Parts.{AreParts}
use Rattle.bep_cut.specs.Says.{AreSoundParts, Says, cluster_at}
use Rattle.bep_fit.specs.Logs.{ObjectLog}
use Rattle.bep_fit.specs.Replayed.{AreReplayed}
use Rattle.bep_run_check.specs.Log.{IsLogged, PutsNode}
use Rattle.bep_run_check.specs.declared.limits.TheConstants.{MAX_OBJECTS}
use Rattle.bep_run_cut.specs.RunCut.{IsCutOf, IsRunCut, PartsLead}
use Rattle.bep_run_cut.specs.Whole.{AreWhole}

abbrev number_of : Seen → Device
number_of one = one.0

numbers_seen : (members : List Member) → map number_of (map seen members) ≡ numbers_of members
numbers_seen [] = refl
numbers_seen (member ∷ more) = ap (λ ns. member.number ∷ ns) (numbers_seen more)

abbrev kind_seen : Folder → Seen → List (Device × FolderKind)
kind_seen folder one = kind_of one.0 (get one.1.replicas folder)

sharing_seen : (members : List Member) (folder : Folder) → flat_map (kind_seen folder) (map seen members) ≡ sharing_of members folder
sharing_seen [] folder = refl
sharing_seen (member ∷ more) folder = ap (λ shares. kind_of member.number (get (tables_of member).replicas folder) ++ shares) (sharing_seen more folder)

abbrev peer_seen : Option Seen → Peer
peer_seen None = record { replicas = empty; sessions = empty }
peer_seen (Some one) = one.1

found_seen : (members : List Member) (device : Device) → peer_seen (find (λ (one : Seen). one.0 == device) (map seen members)) ≡ peer_of (member_at members device)
found_seen [] device = refl
found_seen (member ∷ more) device = cases (member.number == device) (found_seen more device)
  where
    cases : (b : Bool) → peer_seen (find (λ (one : Seen). one.0 == device) (map seen more)) ≡ peer_of (member_at more device) → peer_seen (cond b (Some (seen member)) (find (λ (one : Seen). one.0 == device) (map seen more))) ≡ peer_of (cond b (Some member) (member_at more device))
    cases true rest = refl
    cases false rest = rest

-- the cluster of devices, by their numbers and tables
abbrev cluster_seen : List Seen → List LinkBetween → Cluster
cluster_seen all links = record {
  config = record { devices = map number_of all; sharing = λ folder. flat_map (kind_seen folder) all; links = ends_of links };
  peer = λ device. peer_seen (find (λ (one : Seen). one.0 == device) all);
  link = λ lower upper. link_of (between_at links lower upper);
}

seen_is : (members : List Member) (links : List LinkBetween) → cluster_seen (map seen members) links ≡ cluster_at members links
seen_is members links = λ i. record {
  config = record { devices = numbers_seen members i; sharing = fun_ext (sharing_seen members) i; links = ends_of links };
  peer = fun_ext (found_seen members) i;
  link = λ lower upper. link_of (between_at links lower upper);
}

pub same_cluster : (members others : List Member) (links : List LinkBetween) → map seen members ≡ map seen others → cluster_at members links ≡ cluster_at others links
same_cluster members others links same = sym (seen_is members links) ∙ ap (λ (all : List Seen). cluster_seen all links) same ∙ seen_is others links

-- the cut of devices is the cut of the same devices, whatever their last actions told
pub still_cut : (members others : List Member) (links : List LinkBetween) (cut : CutParts) → map seen members ≡ map seen others → cut ≡ cut_at others links → Says (cluster_at others links) cut → IsCutOf (network_of members links) cut
unfolding cut_at
still_cut members others links cut same is says = record {
  cut_of = is ∙ ap (λ (all : List Seen). parts_at all links) (sym same);
  says = subst (λ (cluster : Cluster). Says cluster cut) (sym (same_cluster members others links same)) says;
}

still_run : (members others bases base_others : List Member) (links base_links : List LinkBetween) (logs : List ObjectLog) → map seen members ≡ map seen others → map seen bases ≡ map seen base_others →
    IsSound (cluster_at base_others base_links) → AreReplayed logs (cluster_at base_others base_links) (cluster_at others links) → AllByRecursion IsLogged logs → length logs ≤ MAX_OBJECTS →
    IsRunCut (record { bases = network_of bases base_links; logs = logs; present = network_of members links })
still_run members others bases base_others links base_links logs same base_same sound replayed logged few =
    let now = sym (same_cluster members others links same) in
    let base = sym (same_cluster bases base_others base_links base_same) in
    record {
      sound = subst (λ (cluster : Cluster). IsSound cluster) base sound;
      replayed = subst (λ (old : Cluster). AreReplayed logs old (cluster_at members links)) base (subst (λ (new : Cluster). AreReplayed logs (cluster_at base_others base_links) new) now replayed);
      nodes = λ log one there stands. holds_of_member PutsNode log.events one (holds_of_member IsLogged logs log logged there).nodes stands;
      few = few;
    }

-- what was found of the parts, wherever they are lent, makes them a run cut
pub is_run_cut : (members bases : List Member) (links base_links : List LinkBetween) (logs : List ObjectLog) → PartsLead members links bases base_links logs → AreWhole members links →
    (lent : List Member) (lent_links : List LinkBetween) (lent_logs : List ObjectLog) → lent ≡ bases → lent_links ≡ base_links → lent_logs ≡ logs → AreSoundParts lent lent_links → AllByRecursion IsLogged lent_logs →
    (after base_after : List Member) → map seen after ≡ map seen members → map seen base_after ≡ map seen bases →
    IsRunCut (record { bases = network_of base_after base_links; logs = logs; present = network_of after links })
is_run_cut members bases links base_links logs lead whole lent lent_links lent_logs is links_are logs_are sound logged after base_after same base_same =
    let led = lead whole in
    let lent_parts : AreParts lent lent_links = subst (λ (ls : List LinkBetween). AreParts lent ls) (sym links_are) (subst (λ (ps : List Member). AreParts ps base_links) (sym is) led.0.parts) in
    let base_sound : IsSound (cluster_at bases base_links) =
    subst (λ (ls : List LinkBetween). IsSound (cluster_at bases ls)) links_are (subst (λ (ps : List Member). IsSound (cluster_at ps lent_links)) is (sound lent_parts)) in
    still_run after members base_after bases links base_links logs same base_same base_sound led.1 (subst (AllByRecursion IsLogged) logs_are logged) led.2
