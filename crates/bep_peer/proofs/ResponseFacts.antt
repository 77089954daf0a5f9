-- Taking a response is the step of the table on the device.
use Rattle.std.proofs.Common.{◌≡◌, ◌⊎◌, ◌<◌, ℕ, List, Option, Some, None, Ok, IsSome, inl, inr, refl, sym, ap, subst, ◌∙◌, option_map, arith}
use Rattle.std.specs.FinMap.{get, insert}
use Rattle.std.specs.Cmp.Lexicographic.{nat_list_cmp_total}
use Rattle.std.proofs.lemmas.Map.Lookups.{exact_bytes}
use Rattle.bep_facts.specs.Maps.{insert-what_is_there}
use Rattle.bep_map.specs.NameMap.{ByName}
use Rattle.bep_model.specs.Tables.{Device, Folder}
use Rattle.bep_machine.specs.declared.message.Request.{Request}
use Rattle.bep_machine.specs.declared.message.Response.{Response}
use Rattle.bep_machine.specs.declared.moved.Moved.TheVariants.{Changed}
use Rattle.bep_machine.specs.Answer.{Done}
use Rattle.bep_machine.specs.Exchange.{HasBytes, AnsweredRow, AskedRow, ResponseRow, asked_for, taken_by, with_block, with_received}
use Rattle.bep_machine.specs.Peer.{Session, Peer}
use Rattle.bep_machine.specs.Replica.{ByDevice, Pull, Replica, pull_at}
use Rattle.bep_folder.specs.Held.{Held}
use Rattle.bep_folder.specs.Makes.{Stays}
use Rattle.bep_folder.specs.Views.{unchanged}
use Rattle.bep_peer.specs.declared.taking.effect.Effect.TheVariants.{Taken}
use Rattle.bep_peer.specs.inner.Effect.{Takes}
use Rattle.bep_peer.specs.Member.{Member, IsMember, AreOwn, NameShared, Remains, HasFailed, tables_in, tables_of, nothing_told}
use Rattle.bep_peer.specs.inner.Response.{Brings, answered_by, changed_at, received_by}
use Rattle.bep_peer.proofs.MemberFacts.{get-tables, tables-given, tables-same, own_kept, named_kept, named_later, rose_here}

-- ---- folders

-- it is the same folder, shared with the same devices, and its store didn't fail
record IsQuiet (was now : Held) : Type 0 where
  stays : Stays was now
  others : now.tables.others ≡ was.tables.others
  faults : now.faults ≡ was.faults

quietly_unchanged : (held : Held) → IsQuiet held (unchanged held)
quietly_unchanged held = record { stays = record { device = refl; folder = refl }; others = refl; faults = refl }

others_kept : (request : Request) (bytes : List ℕ) (found : Option Pull) (tables : Replica) → (with_block request bytes found tables).others ≡ tables.others
others_kept request bytes None tables = refl
others_kept request bytes (Some pull) tables = refl

quietly_received : (request : Request) (bytes : List ℕ) (held : Held) → IsQuiet held (received_by request bytes held)
quietly_received request bytes held = record {
  stays = record { device = refl; folder = refl };
  others = others_kept request bytes (pull_at held.tables request.name) held.tables;
  faults = refl;
}

-- what holds of every member
own_at : (device : Device) (folder : Folder) (change : Held → Held) (folders : ByName Held) (found : Option Held) → get folders folder ≡ found → ((held : Held) → IsQuiet held (change held)) → AreOwn device folders → AreOwn device (changed_at folder change found folders)
own_at device folder change folders None is quiet own = own
own_at device folder change folders (Some held) is quiet own = own_kept device folders folder held (change held) is (quiet held).stays own

named_at : (sessions : ByDevice Session) (folder : Folder) (change : Held → Held) (folders : ByName Held) (found : Option Held) → get folders folder ≡ found → ((held : Held) → IsQuiet held (change held)) → NameShared folders sessions → NameShared (changed_at folder change found folders) sessions
named_at sessions folder change folders None is quiet named = named
named_at sessions folder change folders (Some held) is quiet named = named_kept folders sessions folder held (change held) is (quiet held).others named

member_at : (number : Device) (sessions : ByDevice Session) (linked : List Device) (folder : Folder) (change : Held → Held) (folders new : ByName Held) → ((held : Held) → IsQuiet held (change held)) →
    new ≡ changed_at folder change (get folders folder) folders → IsMember number folders sessions linked → IsMember number new sessions linked
member_at number sessions linked folder change folders new quiet is member =
    subst (λ (folders : ByName Held). IsMember number folders sessions linked) (sym is)
    (record {
      own = own_at number folder change folders (get folders folder) refl quiet member.own;
      named = named_at sessions folder change folders (get folders folder) refl quiet member.named;
      linked_to = member.linked_to;
    })

-- no store failed
silent_at : (old new : Member) (folder : Folder) (change : Held → Held) (found : Option Held) → get old.folders folder ≡ found → ((held : Held) → IsQuiet held (change held)) → new.folders ≡ changed_at folder change found old.folders → ¬ HasFailed old new
silent_at old new folder change None is quiet same failed =
    let found : Some failed.was ≡ Some failed.now = sym failed.before ∙ ap (λ folders. get folders failed.folder) (sym same) ∙ failed.after in
    let one : failed.was ≡ failed.now = cc in
    let rose = subst (λ (h : Held). h.faults < failed.now.faults) one failed.rose in omega arith
silent_at old new folder change (Some held) is quiet same failed =
    let rose = rose_here old new folder held (change held) is same failed in
    let kept = (quiet held).faults in omega arith

remains_at : (old new : Member) (folder : Folder) (change : Held → Held) → ((held : Held) → IsQuiet held (change held)) → new.folders ≡ changed_at folder change (get old.folders folder) old.folders →
    new.number ≡ old.number → new.linked ≡ old.linked → new.trace ≡ nothing_told → Remains old new
remains_at old new folder change quiet same number linked told = record {
  number = number;
  linked = linked;
  failed = (
    λ some. absurd (let none = subst (λ t. IsSome t.failed) told some in cc),
    λ failed. absurd (silent_at old new folder change (get old.folders folder) refl quiet same failed),
  );
}

-- ---- want of memory

pub unchanged_member : (number : Device) (sessions : ByDevice Session) (linked : List Device) (folder : Folder) (folders new : ByName Held) →
    new ≡ changed_at folder unchanged (get folders folder) folders → IsMember number folders sessions linked → IsMember number new sessions linked
unchanged_member number sessions linked folder folders new is member = member_at number sessions linked folder unchanged folders new quietly_unchanged is member

pub unchanged_remains : (old new : Member) (folder : Folder) → new.folders ≡ changed_at folder unchanged (get old.folders folder) old.folders →
    new.number ≡ old.number → new.linked ≡ old.linked → new.trace ≡ nothing_told → Remains old new
unchanged_remains old new folder same number linked told = remains_at old new folder unchanged quietly_unchanged same number linked told

unchanged_tables : (folder : Folder) (folders : ByName Held) (found : Option Held) → get folders folder ≡ found → tables_in (changed_at folder unchanged found folders) ≡ tables_in folders
unchanged_tables folder folders None is = refl
unchanged_tables folder folders (Some held) is = tables-same folders folder held (unchanged held) is refl

abbrev peer_of : ByDevice Session → ByName Replica → Peer
peer_of sessions replicas = record { replicas = replicas; sessions = sessions }

pub unchanged_peer : (sessions : ByDevice Session) (folder : Folder) (folders new : ByName Held) → new ≡ changed_at folder unchanged (get folders folder) folders →
    peer_of sessions (tables_in new) ≡ peer_of sessions (tables_in folders)
unchanged_peer sessions folder folders new is = ap (λ (m : ByName Held). peer_of sessions (tables_in m)) is ∙ ap (peer_of sessions) (unchanged_tables folder folders (get folders folder) refl)

-- ---- the answer is taken

-- the session names the same folders
pub brought_member : (number : Device) (folders new : ByName Held) (sessions : ByDevice Session) (linked : List Device) (other : Device) (session : Session) (request : Request) (response : Response) →
    get sessions other ≡ Some session → Brings request response folders new → IsMember number folders sessions linked → IsMember number new (insert sessions other (answered_by response.id session)) linked
brought_member number folders new sessions linked other session request response has brings member = later (cases brings)
  where
    cases : ((HasBytes response request × (new ≡ changed_at request.folder (received_by request response.bytes) (get folders request.folder) folders)) ⊎ ((¬ HasBytes response request) × (new ≡ folders))) → IsMember number new sessions linked
    cases (inl right) = member_at number sessions linked request.folder (received_by request response.bytes) folders new (quietly_received request response.bytes) right.1 member
    cases (inr wrong) = subst (λ (folders : ByName Held). IsMember number folders sessions linked) (sym wrong.1) member

    later : IsMember number new sessions linked → IsMember number new (insert sessions other (answered_by response.id session)) linked
    later member = record {
      own = member.own;
      named = named_later new sessions other session (answered_by response.id session) has refl member.named;
      linked_to = member.linked_to;
    }

pub brought_remains : (old new : Member) (request : Request) (response : Response) → Brings request response old.folders new.folders →
    new.number ≡ old.number → new.linked ≡ old.linked → new.trace ≡ nothing_told → Remains old new
brought_remains old new request response (inl right) number linked told =
    remains_at old new request.folder (received_by request response.bytes) (quietly_received request response.bytes) right.1 number linked told
brought_remains old new request response (inr wrong) number linked told =
    remains_at old new request.folder (λ held. held) (λ held. record { stays = record { device = refl; folder = refl }; others = refl; faults = refl })
    (wrong.1 ∙ same_at (get old.folders request.folder) refl) number linked told
  where
    same_at : (found : Option Held) → get old.folders request.folder ≡ found → old.folders ≡ changed_at request.folder (λ held. held) found old.folders
    same_at None is = refl
    same_at (Some held) is = sym (insert-what_is_there nat_list_cmp_total exact_bytes old.folders request.folder held is)

received_peer : (request : Request) (bytes : List ℕ) (folders : ByName Held) (sessions : ByDevice Session) (found : Option Held) → get folders request.folder ≡ found →
    peer_of sessions (tables_in (changed_at request.folder (received_by request bytes) found folders)) ≡ with_received request bytes (get (tables_in folders) request.folder) (peer_of sessions (tables_in folders))
received_peer request bytes folders sessions None is =
    ap (λ (found : Option Replica). with_received request bytes found (peer_of sessions (tables_in folders)))
    (sym (get-tables folders request.folder ∙ ap (option_map (λ (held : Held). held.tables)) is))
received_peer request bytes folders sessions (Some held) is =
    ap (peer_of sessions) (tables-given folders request.folder (received_by request bytes held))
    ∙ ap (λ (found : Option Replica). with_received request bytes found (peer_of sessions (tables_in folders)))
    (sym (get-tables folders request.folder ∙ ap (option_map (λ (held : Held). held.tables)) is))

pub response_taken : (other : Device) (session : Session) (request : Request) (response : Response) (old new : Member) → asked_for response.id session.outstanding ≡ Some request →
    Brings request response old.folders new.folders → new.sessions ≡ insert old.sessions other (answered_by response.id session) →
    Takes (ResponseRow other session response (tables_of old)) old new (Ok Taken)
response_taken other session request response old new asked brings later =
    subst (λ (asked : Option Request). AskedRow other session response asked (tables_of old) (taken_by (tables_of new)) (Done Changed)) (sym asked) (cases brings)
  where
    cases : ((HasBytes response request × (new.folders ≡ changed_at request.folder (received_by request response.bytes) (get old.folders request.folder) old.folders)) ⊎ ((¬ HasBytes response request) × (new.folders ≡ old.folders))) →
        AnsweredRow other session response request (tables_of old) (taken_by (tables_of new)) (Done Changed)
    cases (inl right) = inl (
      right.0,
      (
        ap taken_by (
            ap (λ (s : ByDevice Session). peer_of s (tables_in new.folders)) later
            ∙ ap (λ (m : ByName Held). peer_of (insert old.sessions other (answered_by response.id session)) (tables_in m)) right.1
            ∙ received_peer request response.bytes old.folders (insert old.sessions other (answered_by response.id session)) (get old.folders request.folder) refl
            ),
        refl,
      ),
    )
    cases (inr wrong) = inr (
      wrong.0,
      (
        ap taken_by (
            ap (λ (s : ByDevice Session). peer_of s (tables_in new.folders)) later
            ∙ ap (λ (m : ByName Held). peer_of (insert old.sessions other (answered_by response.id session)) (tables_in m)) wrong.1
            ),
        refl,
      ),
    )
