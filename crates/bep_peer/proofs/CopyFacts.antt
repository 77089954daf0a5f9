-- A device's folders, as they are read out one after the other.
use Rattle.std.proofs.Common.{◌≡◌, ◌⊎◌, ◌<◌, List, [], ◌∷◌, map, Bool, true, false, cond, Option, Some, None, IsSome, option_map, Result, Ok, Err, IfOk, IfErr, Contains, inl, inr, refl, sym, ap, subst, ◌∙◌, ⊎_elim}
use Rattle.std.specs.Ordering.{nat_cmp, eq_by_cmp}
use Rattle.std.specs.Cmp.Lexicographic.{slice_cmp, nat_list_cmp_total}
use Rattle.std.specs.FinMap.{get, insert, entries, keys, from_entries, get-insert, same_map}
use Rattle.std.proofs.lemmas.Map.Lookups.{exact_bytes}
use Rattle.bep_facts.specs.Maps.{same_key}
use Rattle.bep_map.specs.NameMap.{ByName}
use Rattle.bep_model.specs.Tables.{Device, Folder}
use Rattle.bep_machine.specs.Peer.{Session}
use Rattle.bep_machine.specs.Exchange.{IsNamed}
use Rattle.bep_machine.specs.Replica.{ByDevice, Replica}
use Rattle.bep_folder.specs.Contents.{copied_out}
use Rattle.bep_folder.specs.Held.{Held}
use Rattle.bep_folder.specs.Makes.{CountsFaults, Stays}
use Rattle.bep_folder.specs.declared.error.FolderError.{FolderError}
use Rattle.bep_folder.specs.declared.error.FolderError.TheVariants as errors
use Rattle.bep_machine.specs.declared.refusal.Refusal.TheVariants.{StoreFault}
use Rattle.bep_peer.specs.declared.error.PeerError.{PeerError}
use Rattle.bep_peer.specs.declared.error.PeerError.TheVariants.{Memory, Refused}
use Rattle.bep_peer.specs.inner.Call.{AnswersAt, IsRead}
use Rattle.bep_peer.specs.Copied.{IsReread, folders_copied, member_copied, uncalled}
use Rattle.bep_peer.specs.Member.{AreOwn, HasFailed, IsMember, Member, NameShared, Remains, tables_in, tables_of, untold}
use Rattle.bep_peer.specs.Within.{answer_of, error_of, with_folder}
use Rattle.bep_peer.proofs.WithinFacts.{either_way, same_tables}
use Rattle.bep_peer.proofs.Mapped.{changed, entries-changed, get-changed}
use Rattle.bep_peer.proofs.MemberFacts.{get-tables}

-- the value that was changed into one that is found
found_before : {V W : Type 0} (f : V → W) (old : Option V) (new : W) → option_map f old ≡ Some new → (was : V) × (old ≡ Some was) × (f was ≡ new)
found_before f None new is = absurd (cc)
found_before f (Some was) new is = (was, refl, cc)

-- ---- what reading leaves

pub reread_itself : (member : Member) → IsReread member member
reread_itself member = record { number = refl; linked = refl; sessions = refl; folders = λ folder. refl }

pub reread_after : {old between new : Member} → IsReread old between → IsReread between new → IsReread old new
reread_after first then = record {
  number = then.number ∙ first.number;
  linked = then.linked ∙ first.linked;
  sessions = then.sessions ∙ first.sessions;
  folders = λ folder. then.folders folder ∙ first.folders folder;
}

same_uncalled : (before after : Held) → Stays before after → after.tables ≡ before.tables → after.faults ≡ before.faults → uncalled after ≡ uncalled before
same_uncalled before after stays tables faults =
    ap (λ d. record (uncalled after) { device = d }) stays.device
    ∙ ap (λ f. record (uncalled after) { device = before.device; folder = f }) stays.folder
    ∙ ap (λ t. record (uncalled after) { device = before.device; folder = before.folder; tables = t }) tables
    ∙ ap (λ n. record (uncalled before) { faults = n }) faults

-- one folder was read
pub reread_one : (old : Member) (folder : Folder) (before after : Held) → get old.folders folder ≡ Some before → Stays before after → after.tables ≡ before.tables → after.faults ≡ before.faults →
    IsReread old (with_folder old folder after)
reread_one old folder before after has stays tables faults = record { number = refl; linked = refl; sessions = refl; folders = folders }
  where
    at : (other : Folder) (b : Bool) → eq_by_cmp (slice_cmp nat_cmp) other folder ≡ b → option_map uncalled (cond b (Some after) (get old.folders other)) ≡ option_map uncalled (get old.folders other)
    at other true tied = ap Some (same_uncalled before after stays tables faults) ∙ ap (option_map uncalled) (sym (ap (get old.folders) (same_key exact_bytes other folder tied) ∙ has))
    at other false apart = refl

    folders : (other : Folder) → option_map uncalled (get (insert old.folders folder after) other) ≡ option_map uncalled (get old.folders other)
    folders other = ap (option_map uncalled) (get-insert nat_list_cmp_total old.folders folder after other) ∙ at other (eq_by_cmp (slice_cmp nat_cmp) other folder) refl

-- what was before, of a folder
was_held : {old new : Member} → IsReread old new → (folder : Folder) (now : Held) → get new.folders folder ≡ Some now → (was : Held) × (get old.folders folder ≡ Some was) × (uncalled was ≡ uncalled now)
was_held {old} read folder now is = found_before uncalled (get old.folders folder) (uncalled now) (sym (read.folders folder) ∙ ap (option_map uncalled) is)

is_held : {old new : Member} → IsReread old new → (folder : Folder) (was : Held) → get old.folders folder ≡ Some was → (now : Held) × (get new.folders folder ≡ Some now) × (uncalled now ≡ uncalled was)
is_held {new = new} read folder was is = found_before uncalled (get new.folders folder) (uncalled was) (read.folders folder ∙ ap (option_map uncalled) is)

-- the folder is there still
pub still_there : {old new : Member} → IsReread old new → (folder : Folder) → IsSome (get old.folders folder) → IsSome (get new.folders folder)
still_there {old} {new} read folder some = at (get old.folders folder) refl some
  where
    at : (was : Option Held) → get old.folders folder ≡ was → IsSome was → IsSome (get new.folders folder)
    at None is some = absurd (cc)
    at (Some was) is some = let now = is_held read folder was is in subst (λ o. IsSome o) (sym now.1) refl

-- a store that failed after the reading failed once more than before it
pub remains_after : {old between new : Member} → IsReread old between → Remains between new → Remains old new
remains_after {old} {between} {new} read rest = record {
  number = rest.number ∙ read.number;
  linked = rest.linked ∙ read.linked;
  failed = (λ some. earlier (rest.failed.0 some), λ failed. rest.failed.1 (later failed));
}
  where
    earlier : HasFailed between new → HasFailed old new
    earlier failed =
        let was = was_held read failed.folder failed.was failed.before in
        record {
          folder = failed.folder;
          was = was.0;
          now = failed.now;
          before = was.1;
          after = failed.after;
          rose = subst (λ n. n < failed.now.faults) (sym (ap (λ (h : Held). h.faults) was.2)) failed.rose;
        }

    later : HasFailed old new → HasFailed between new
    later failed =
        let now = is_held read failed.folder failed.was failed.before in
        record {
          folder = failed.folder;
          was = now.0;
          now = failed.now;
          before = now.1;
          after = failed.after;
          rose = subst (λ n. n < failed.now.faults) (sym (ap (λ (h : Held). h.faults) now.2)) failed.rose;
        }

-- ---- a folder that is copied out

abbrev DoesCopy : Held → Held → Result Held FolderError → Type 0
DoesCopy before = IsRead (λ copy. copy ≡ copied_out before) before

-- the copy is of the folder as it was, and nothing but a reading is left
abbrev pub IsCopied : Folder → Member → Member → Result Held PeerError → Type 0
IsCopied folder old new result = IfOk result (λ copy. (option_map copied_out (get old.folders folder) ≡ Some copy) × IsReread old new)

pub copied_at : {folder : Folder} {old new : Member} {result : Result Held PeerError} → AnswersAt DoesCopy folder old new result → IsCopied folder old new result
copied_at {folder} {old} = either_way (IsCopied folder old) (λ none. tt) (λ call. at call.before call.after call.answer call.there call.steady.stays call.done.same call.done.right call.steady.counted)
  where
    at : (before after : Held) (answer : Result Held FolderError) → get old.folders folder ≡ Some before → Stays before after → after.tables ≡ before.tables → IfOk answer (λ copy. copy ≡ copied_out before) → CountsFaults before after answer →
        IsCopied folder old (with_folder old folder after) (answer_of answer)
    at before after (Ok copy) has stays same right counted = (ap (option_map copied_out) has ∙ ap Some (sym right), reread_one old folder before after has stays same counted.0)
    at before after (Err error) has stays same right counted = tt

abbrev pub FailsOnly : Result Held PeerError → Type 0
FailsOnly result = IfErr result (λ e. (e ≡ Refused StoreFault) ⊎ (e ≡ Memory))

pub copying_leaves : {folder : Folder} {old new : Member} {result : Result Held PeerError} → AnswersAt DoesCopy folder old new result → tables_of new ≡ tables_of old
copying_leaves {folder} {old} = either_way (λ m _. tables_of m ≡ tables_of old) (λ none. refl) (λ call. same_tables old folder call.before call.after call.there call.done.same)

-- ---- the copies

pub get-copied : (folders : ByName Held) (folder : Folder) → get (folders_copied folders) folder ≡ option_map copied_out (get folders folder)
get-copied folders folder = get-changed nat_list_cmp_total exact_bytes copied_out folders folder

-- copies of what was read before are copies of what is there now
copied_uncalled : (held : Option Held) → option_map copied_out held ≡ option_map copied_out (option_map uncalled held)
copied_uncalled None = refl
copied_uncalled (Some held) = refl

pub copied_later : {old new : Member} → IsReread old new → (folder : Folder) → option_map copied_out (get new.folders folder) ≡ get (folders_copied old.folders) folder
copied_later {old} {new} read folder =
    copied_uncalled (get new.folders folder) ∙ ap (option_map copied_out) (read.folders folder) ∙ sym (copied_uncalled (get old.folders folder)) ∙ sym (get-copied old.folders folder)

pub same_copies : {old new : Member} → IsReread old new → folders_copied new.folders ≡ folders_copied old.folders
same_copies {old} {new} read = same_map nat_list_cmp_total exact_bytes _ _ (λ folder. get-copied new.folders folder ∙ copied_later read folder)

-- the copies have the tables
tables_copied : (held : Option Held) → option_map (λ (h : Held). h.tables) (option_map copied_out held) ≡ option_map (λ (h : Held). h.tables) held
tables_copied None = refl
tables_copied (Some held) = refl

pub same_tables_in : (folders : ByName Held) → tables_in (folders_copied folders) ≡ tables_in folders
same_tables_in folders = same_map nat_list_cmp_total exact_bytes _ _ (λ folder.
    get-tables (folders_copied folders) folder ∙ ap (option_map (λ (h : Held). h.tables)) (get-copied folders folder) ∙ tables_copied (get folders folder) ∙ sym (get-tables folders folder))

-- ---- what holds of every member holds of the copy

pub member_copied_is : (number : Device) (folders : ByName Held) (sessions : ByDevice Session) (linked : List Device) → IsMember number folders sessions linked → IsMember number (folders_copied folders) sessions linked
member_copied_is number folders sessions linked member = record { own = own; named = named; linked_to = member.linked_to }
  where
    own : AreOwn number (folders_copied folders)
    own folder held is =
        let was = found_before copied_out (get folders folder) held (sym (get-copied folders folder) ∙ is) in
        let before = member.own folder was.0 was.1 in
        (sym (ap (λ (h : Held). h.device) was.2) ∙ before.0, sym (ap (λ (h : Held). h.folder) was.2) ∙ before.1)

    named : NameShared (folders_copied folders) sessions
    named other session folder is is_named =
        let shared = member.named other session folder is is_named in
        (copied_out shared.0, get-copied folders folder ∙ ap (option_map copied_out) shared.1, shared.2)

-- ---- a whole device

-- nothing is told
pub reread_untold : (member : Member) → IsReread member (untold member)
reread_untold member = record { number = refl; linked = refl; sessions = refl; folders = λ folder. refl }

pub remains_from : (old begun new : Member) → begun ≡ untold old → Remains begun new → Remains old new
remains_from old begun new is rest = remains_after (reread_untold old) (subst (λ (m : Member). Remains m new) is rest)

-- what is copied of the device as it was read, and of the device as it was
pub same_member_copied : (old begun new : Member) → begun ≡ untold old → IsReread begun new → member_copied new ≡ member_copied old
same_member_copied old begun new is read =
    ap (λ n. record (member_copied new) { number = n }) read.number
    ∙ ap (λ l. record (member_copied new) { number = begun.number; linked = l }) read.linked
    ∙ ap (λ s. record (member_copied new) { number = begun.number; linked = begun.linked; sessions = s }) read.sessions
    ∙ ap (λ f. record (member_copied begun) { folders = f }) (same_copies read)
    ∙ ap member_copied is

pub copied_tables : (member : Member) → tables_of (member_copied member) ≡ tables_of member
copied_tables member = ap (λ (replicas : ByName Replica). record { replicas = replicas; sessions = member.sessions }) (same_tables_in member.folders)

-- the names of the folders that are copied
pub same_names : (folders : ByName Held) → keys (folders_copied folders) ≡ keys folders
same_names folders = ap (map (λ (one : Folder × Held). one.0)) (entries-changed nat_list_cmp_total exact_bytes copied_out folders) ∙ names (entries folders)
  where
    names : (es : List (Folder × Held)) → map (λ (one : Folder × Held). one.0) (changed copied_out es) ≡ map (λ (one : Folder × Held). one.0) es
    names [] = refl
    names (e ∷ es) = ap (λ rest. e.0 ∷ rest) (names es)
