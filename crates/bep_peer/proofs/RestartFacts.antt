-- A device that starts again or over: each of its folders is changed alike, as a restart or a reset changes it, and its
-- sessions go.
use Rattle.std.proofs.Common.{◌≡◌, ◌<◌, List, map, Option, Some, None, option_map, refl, sym, ap, ◌∙◌, arith}
use Rattle.std.specs.Cmp.Lexicographic.{nat_list_cmp_total}
use Rattle.std.specs.FinMap.{empty, get, entries, from_entries, same_map}
use Rattle.std.proofs.lemmas.Map.Lookups.{exact_bytes}
use Rattle.bep_map.specs.NameMap.{ByName}
use Rattle.bep_model.specs.Tables.{Device, Folder}
use Rattle.bep_machine.specs.Peer.{Session, Peer}
use Rattle.bep_machine.specs.Replica.{ByDevice, Replica}
use Rattle.bep_folder.specs.Held.{Held}
use Rattle.bep_folder.specs.Views.{unchanged}
use Rattle.bep_peer.specs.Member.{Member, IsMember, Remains, tables_in, tables_of, untold}
use Rattle.bep_peer.proofs.Mapped.{changed, get-changed, get-from_changed}
use Rattle.bep_peer.proofs.SessionFacts.{none_named}

-- each replica is changed, and the sessions are gone
abbrev pub begun_again : (Replica → Replica) → Peer → Peer
begun_again change peer = record { replicas = from_entries (map (λ one. (one.0, change one.1)) (entries peer.replicas)); sessions = empty }

-- a folder that is changed so
abbrev pub changed_held : (Replica → Replica) → Held → Held
changed_held change held = record (unchanged held) { tables = change held.tables }

-- each folder is
abbrev pub AreChanged : (Replica → Replica) → ByName Held → ByName Held → Type 0
AreChanged change folders new = entries new ≡ changed (changed_held change) (entries folders)

abbrev its_tables : Held → Replica
its_tables held = held.tables

module _ (change : Replica → Replica) where
  changed_before : (found : Option Held) (now : Held) → option_map (changed_held change) found ≡ Some now → (was : Held) × (found ≡ Some was) × (now ≡ changed_held change was)
  changed_before None now is = absurd (cc)
  changed_before (Some was) now is = (was, refl, cc)

  module _ (folders new : ByName Held) (all : AreChanged change folders new) where
    at_each : (folder : Folder) → get new folder ≡ option_map (changed_held change) (get folders folder)
    at_each folder = get-from_changed nat_list_cmp_total exact_bytes (changed_held change) folders new all folder

    before : (folder : Folder) (now : Held) → get new folder ≡ Some now → (was : Held) × (get folders folder ≡ Some was) × (now ≡ changed_held change was)
    before folder now is = changed_before (get folders folder) now (sym (at_each folder) ∙ is)

    same_either_way : (found : Option Held) → option_map its_tables (option_map (changed_held change) found) ≡ option_map change (option_map its_tables found)
    same_either_way None = refl
    same_either_way (Some held) = refl

    -- the tables are those of a peer that begins again
    replicas_again : (sessions : ByDevice Session) → tables_in new ≡ (begun_again change (record { replicas = tables_in folders; sessions = sessions })).replicas
    replicas_again sessions = same_map nat_list_cmp_total exact_bytes _ _ (λ folder.
        get-changed nat_list_cmp_total exact_bytes its_tables new folder
        ∙ ap (option_map its_tables) (at_each folder)
        ∙ same_either_way (get folders folder)
        ∙ ap (option_map change) (sym (get-changed nat_list_cmp_total exact_bytes its_tables folders folder))
        ∙ sym (get-changed nat_list_cmp_total exact_bytes change (tables_in folders) folder))

    no_store_failed : (folder : Folder) (was now : Held) → get folders folder ≡ Some was → get new folder ≡ Some now → was.faults < now.faults → ⊥
    no_store_failed folder was now is is_now rose =
        let had = before folder now is_now in
        let same : was ≡ had.0 = let both = sym is ∙ had.1 in cc in
        let count : now.faults ≡ was.faults = ap (λ (h : Held). h.faults) had.2 ∙ ap (λ (h : Held). h.faults) (sym same) in
        absurd (omega arith)

    -- what holds of every member
    pub member_again : (number : Device) (before_sessions sessions : ByDevice Session) (linked : List Device) → IsMember number folders before_sessions linked → sessions ≡ empty → IsMember number new sessions linked
    member_again number before_sessions sessions linked member none = record {
      own = λ folder held is.
          let had = before folder held is in
          let own = member.own folder had.0 had.1 in
          (ap (λ (h : Held). h.device) had.2 ∙ own.0, ap (λ (h : Held). h.folder) had.2 ∙ own.1);
      named = none_named new sessions none;
      linked_to = member.linked_to;
    }

-- the device with these folders and sessions
abbrev pub again_with : Member → ByName Held → ByDevice Session → Member
again_with begun folders sessions = record begun { folders = folders; sessions = sessions }

pub tables_again : (change : Replica → Replica) (old begun : Member) (new : ByName Held) (sessions : ByDevice Session) → begun ≡ untold old → AreChanged change begun.folders new → sessions ≡ empty → tables_of (again_with begun new sessions) ≡ begun_again change (tables_of old)
tables_again change old begun new sessions same all none =
    ap (λ (left : ByDevice Session). record { replicas = tables_in new; sessions = left }) none
    ∙ ap (λ (replicas : ByName Replica). record { replicas = replicas; sessions = empty }) (replicas_again change begun.folders new all begun.sessions)
    ∙ ap (λ (member : Member). begun_again change (tables_of member)) same

pub remains_again : (change : Replica → Replica) (old begun : Member) (new : ByName Held) (sessions : ByDevice Session) → begun ≡ untold old → AreChanged change begun.folders new → Remains old (again_with begun new sessions)
remains_again change old begun new sessions same all = record {
  number = ap (λ (member : Member). member.number) same;
  linked = ap (λ (member : Member). member.linked) same;
  failed = (
    λ told. let none = ap (λ (member : Member). member.trace.failed) same in absurd (cc),
    λ failed. absurd (no_store_failed change begun.folders new all failed.folder failed.was failed.now (ap (λ (member : Member). get member.folders failed.folder) same ∙ failed.before) failed.after failed.rose),
  );
}
