-- What stays of a device when one of its folders, or one of its sessions, changes.
use Rattle.std.proofs.Common.{◌≡◌, ◌⊎◌, ◌<◌, Bool, true, false, cond, Some, IsSome, Contains, List, option_map, inl, inr, refl, sym, ap, subst, ◌∙◌, arith}
use Rattle.std.specs.FinMap.{nat_cmp-IsAntisymmetric, get, insert, get-insert}
use Rattle.std.specs.Ordering.{nat_cmp, eq_by_cmp}
use Rattle.std.specs.Cmp.{nat_cmp_total}
use Rattle.std.specs.Cmp.Lexicographic.{slice_cmp, nat_list_cmp_total}
use Rattle.std.proofs.lemmas.Map.Lookups.{exact_bytes}
use Rattle.bep_facts.specs.Maps.{found_after_insert, insert-what_is_there, same_key}
use Rattle.bep_map.specs.NameMap.{ByName}
use Rattle.bep_model.specs.Tables.{Device, Folder}
use Rattle.bep_machine.specs.Peer.{Session}
use Rattle.bep_machine.specs.Replica.{ByDevice}
use Rattle.bep_folder.specs.Held.{Held}
use Rattle.bep_folder.specs.Makes.{Stays}
use Rattle.bep_peer.specs.declared.trace.Trace.{Trace}
use Rattle.bep_peer.specs.Member.{Member, AreOwn, NameShared, HasFailed, tables_in}
use Rattle.bep_peer.proofs.Mapped.{get-changed, insert-changed}

-- a device, of its parts
abbrev pub member_of : Device → ByName Held → ByDevice Session → List Device → Trace → Member
member_of number folders sessions linked trace = record { number = number; folders = folders; sessions = sessions; linked = linked; trace = trace }

-- ---- the tables

pub get-tables : (folders : ByName Held) (folder : Folder) → get (tables_in folders) folder ≡ option_map (λ (held : Held). held.tables) (get folders folder)
get-tables folders folder = get-changed nat_list_cmp_total exact_bytes (λ (held : Held). held.tables) folders folder

-- the tables of a folder that the device has
pub has_tables : (folders : ByName Held) (folder : Folder) (held : Held) → get folders folder ≡ Some held → get (tables_in folders) folder ≡ Some held.tables
has_tables folders folder held has = get-tables folders folder ∙ ap (option_map (λ (held : Held). held.tables)) has

-- a folder that changes
pub tables-given : (folders : ByName Held) (folder : Folder) (held : Held) → tables_in (insert folders folder held) ≡ insert (tables_in folders) folder held.tables
tables-given folders folder held = insert-changed nat_list_cmp_total exact_bytes (λ (held : Held). held.tables) folders folder held

-- a folder whose tables stay
pub tables-same : (folders : ByName Held) (folder : Folder) (was now : Held) → get folders folder ≡ Some was → now.tables ≡ was.tables → tables_in (insert folders folder now) ≡ tables_in folders
tables-same folders folder was now has same =
    tables-given folders folder now
    ∙ ap (insert (tables_in folders) folder) same
    ∙ insert-what_is_there nat_list_cmp_total exact_bytes (tables_in folders) folder was.tables (has_tables folders folder was has)

-- ---- what holds of every member

pub own_kept : (device : Device) (folders : ByName Held) (folder : Folder) (was now : Held) → get folders folder ≡ Some was → Stays was now → AreOwn device folders → AreOwn device (insert folders folder now)
own_kept device folders folder was now has stays own other held is = cases (found_after_insert nat_list_cmp_total exact_bytes folders folder now other held is)
  where
    cases : ((other ≡ folder) × (held ≡ now)) ⊎ ((eq_by_cmp (slice_cmp nat_cmp) other folder ≡ false) × (get folders other ≡ Some held)) → (held.device ≡ device) × (held.folder ≡ other)
    cases (inl here) =
        let before = own folder was has in
        (ap (λ (h : Held). h.device) here.1 ∙ stays.device ∙ before.0, ap (λ (h : Held). h.folder) here.1 ∙ stays.folder ∙ before.1 ∙ sym here.0)
    cases (inr there) = own other held there.1

pub named_kept : (folders : ByName Held) (sessions : ByDevice Session) (folder : Folder) (was now : Held) → get folders folder ≡ Some was → now.tables.others ≡ was.tables.others → NameShared folders sessions → NameShared (insert folders folder now) sessions
named_kept folders sessions folder was now has same named other session name is is_named = cases (eq_by_cmp (slice_cmp nat_cmp) name folder) refl (named other session name is is_named)
  where
    cases : (b : Bool) → eq_by_cmp (slice_cmp nat_cmp) name folder ≡ b → ((held : Held) × (get folders name ≡ Some held) × Contains held.tables.others other) → (held : Held) × (get (insert folders folder now) name ≡ Some held) × Contains held.tables.others other
    cases true tied shared =
        let found : Some shared.0 ≡ Some was = sym shared.1 ∙ ap (get folders) (same_key exact_bytes name folder tied) ∙ has in
        let one : shared.0 ≡ was = cc in (
          now,
          get-insert nat_list_cmp_total folders folder now name ∙ ap (λ b. cond b (Some now) (get folders name)) tied,
          subst (λ others. Contains others other) (ap (λ (h : Held). h.tables.others) one ∙ sym same) shared.2,
        )
    cases false apart shared = (shared.0, get-insert nat_list_cmp_total folders folder now name ∙ ap (λ b. cond b (Some now) (get folders name)) apart ∙ shared.1, shared.2)

-- a session that names the same folders later
pub named_later : (folders : ByName Held) (sessions : ByDevice Session) (other : Device) (before later : Session) → get sessions other ≡ Some before → later.cursors ≡ before.cursors → NameShared folders sessions → NameShared folders (insert sessions other later)
named_later folders sessions other before later has same named device session folder is is_named = cases (found_after_insert nat_cmp_total nat_cmp-IsAntisymmetric sessions other later device session is)
  where
    cases : ((device ≡ other) × (session ≡ later)) ⊎ ((eq_by_cmp nat_cmp device other ≡ false) × (get sessions device ≡ Some session)) → (held : Held) × (get folders folder ≡ Some held) × Contains held.tables.others device
    cases (inl here) =
        subst (λ (d : Device). (held : Held) × (get folders folder ≡ Some held) × Contains held.tables.others d) (sym here.0)
        (named other before folder has (subst (λ cursors. IsSome (get cursors folder)) (ap (λ (s : Session). s.cursors) here.1 ∙ same) is_named))
    cases (inr there) = named device session folder there.1 is_named

-- ---- what is told

-- where one folder changed, a store that failed once more is that folder's
pub rose_here : (old new : Member) (folder : Folder) (was now : Held) → get old.folders folder ≡ Some was → new.folders ≡ insert old.folders folder now → HasFailed old new → was.faults < now.faults
rose_here old new folder was now has changed failed =
    cases (found_after_insert nat_list_cmp_total exact_bytes old.folders folder now failed.folder failed.now (sym (ap (λ folders. get folders failed.folder) changed) ∙ failed.after))
  where
    cases : ((failed.folder ≡ folder) × (failed.now ≡ now)) ⊎ ((eq_by_cmp (slice_cmp nat_cmp) failed.folder folder ≡ false) × (get old.folders failed.folder ≡ Some failed.now)) → was.faults < now.faults
    cases (inl here) =
        let found : Some failed.was ≡ Some was = sym failed.before ∙ ap (get old.folders) here.0 ∙ has in
        let one : failed.was ≡ was = cc in
        subst (λ (h : Held). h.faults < now.faults) one (subst (λ (h : Held). failed.was.faults < h.faults) here.1 failed.rose)
    cases (inr there) =
        let found : Some failed.was ≡ Some failed.now = sym failed.before ∙ there.1 in
        let one : failed.was ≡ failed.now = cc in
        let rose = subst (λ (h : Held). h.faults < failed.now.faults) one failed.rose in absurd (omega arith)
