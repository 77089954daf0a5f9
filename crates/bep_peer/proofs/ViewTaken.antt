-- Taking an Index or an IndexUpdate is the step of the table on the device.
use Rattle.std.proofs.Common.{◌≡◌, ◌<◌, ◌≤◌, ◌+◌, ℕ, Bool, List, [], ◌∷◌, length, Some, IsSome, Option, Result, Ok, Err, IfOk, OnErr, inl, inr, refl, sym, ap, subst, ◌∙◌, arith}
use Rattle.std.specs.Ordering.{nat_cmp}
use Rattle.std.specs.Cmp.Lexicographic.{slice_cmp, nat_list_cmp_total}
use Rattle.std.specs.FinMap.{empty, get, insert, len, len-empty}
use Rattle.bep_facts.specs.Maps.{len-insert_le}
use Rattle.bep_map.specs.NameMap.{ByName}
use Rattle.bep_record.specs.declared.entry.Entry.{Entry}
use Rattle.bep_index.specs.declared.limits.TheConstants.{MAX_NAMES}
use Rattle.bep_index.specs.Batch.{IsBatch, with_all}
use Rattle.bep_index.specs.Listing.{Listing}
use Rattle.bep_index.specs.View.{IsOld, replaced, amended}
use Rattle.bep_model.specs.Tables.{Device, Folder}
use Rattle.bep_machine.specs.declared.message.Message.TheVariants as messages
use Rattle.bep_machine.specs.declared.refusal.Refusal.TheVariants.{IndexFull}
use Rattle.bep_machine.specs.Answer.{Answer, Row, when◌then◌else◌}
use Rattle.bep_machine.specs.Exchange.{IsNamed, LosingRow, MessageRow, ReplicaRow, ViewRow, taken_by}
use Rattle.bep_machine.specs.Link.{losing}
use Rattle.bep_machine.specs.Peer.{Session, Peer, Acted, idle, with_replica}
use Rattle.bep_machine.specs.Replica.{ByDevice, Replica, view_of, with_view}
use Rattle.bep_folder.specs.Held.{Held}
use Rattle.bep_folder.specs.Makes.{Stays}
use Rattle.bep_folder.specs.Views.{unchanged, with_viewed}
use Rattle.bep_peer.specs.declared.taking.effect.Effect.{Effect}
use Rattle.bep_peer.specs.declared.error.PeerError.{PeerError}
use Rattle.bep_peer.specs.declared.error.PeerError.TheVariants.{Refused, Stale, Memory}
use Rattle.bep_peer.specs.declared.trace.Trace.{Trace}
use Rattle.bep_peer.specs.inner.Effect.{SendsNone, Takes}
use Rattle.bep_peer.specs.Member.{Member, IsMember, Remains, tables_in, tables_of, nothing_told}
use Rattle.bep_peer.specs.inner.Index.{IsAsBefore, TakesInView}
use Rattle.bep_peer.proofs.MemberFacts.{has_tables, tables-given, tables-same, own_kept, named_kept, rose_here}

-- ---- a batch has no more names than a view may have

few_with_all : (records : ByName Entry) (batch : List Entry) (most : ℕ) → len records + length batch ≤ most → len (with_all records batch) ≤ most
few_with_all records [] most few = omega arith
few_with_all records (entry ∷ more) most few =
    few_with_all (insert records entry.name entry) more most (one_more (len-insert_le nat_list_cmp_total records entry.name entry (len records + 1) (omega arith) (λ _. omega arith)))
  where
    one_more : len (insert records entry.name entry) ≤ len records + 1 → len (insert records entry.name entry) + length more ≤ most
    one_more h = omega arith

pub few_of_batch : (batch : List Entry) → IsBatch batch → len (with_all empty batch) ≤ MAX_NAMES
few_of_batch batch is = few_with_all empty batch MAX_NAMES (let few = is.few in let none = len-empty (slice_cmp nat_cmp) Entry in omega arith)

-- ---- a folder that changes in its view alone, or not at all

-- the folder stays the device's, with the same other devices, and its store didn't fail
pub record ChangesOne (old new : ByName Held) : Type 0 where
  pub folder : Folder
  pub was : Held
  pub now : Held
  pub before : get old folder ≡ Some was
  pub after : new ≡ insert old folder now
  pub stays : Stays was now
  pub others : now.tables.others ≡ was.tables.others
  pub faults : now.faults ≡ was.faults

-- what is known of a folder changed, or nothing did
one_change : (folder : Folder) (old new : ByName Held) (held now : Held) → get old folder ≡ Some held → Stays held now → now.tables.others ≡ held.tables.others → now.faults ≡ held.faults → new ≡ insert old folder now → ChangesOne old new
one_change folder old new held now has stays others faults is = record {
  folder = folder;
  was = held;
  now = now;
  before = has;
  after = is;
  stays = stays;
  others = others;
  faults = faults;
}

module _ (folder : Folder) (other : Device) (held : Held) (losing : Listing → Type 0) (changed : Listing → Listing) (old new : ByName Held) (has : get old folder ≡ Some held) where
  as_before : IsAsBefore folder held old new → ChangesOne old new
  as_before is = one_change folder old new held (unchanged held) has (record { device = refl; folder = refl }) refl refl is

  pub changes_one : (result : Result Effect PeerError) → TakesInView folder other held losing changed old new result → ChangesOne old new
  changes_one result (inl taken) =
      one_change folder old new held (with_viewed held other (changed (view_of held.tables other))) has (record { device = refl; folder = refl }) refl refl taken.3
  changes_one result (inr (inl lost)) = as_before lost.2
  changes_one result (inr (inr (inl full))) = as_before full.3
  changes_one result (inr (inr (inr wanting))) = as_before wanting.3

module _ (folder : Folder) (other : Device) (held : Held) (losing : Listing → Type 0) (changed : Listing → Listing) (old new : ByName Held) where
  -- no response is sent
  pub sends_none : (result : Result Effect PeerError) → TakesInView folder other held losing changed old new result → IfOk result SendsNone
  sends_none result (inl taken) = subst (λ (r : Result Effect PeerError). IfOk r SendsNone) (sym taken.0) refl
  sends_none result (inr (inl lost)) = subst (λ (r : Result Effect PeerError). IfOk r SendsNone) (sym lost.0) refl
  sends_none result (inr (inr (inl full))) = subst (λ (r : Result Effect PeerError). IfOk r SendsNone) (sym full.0) tt
  sends_none result (inr (inr (inr wanting))) = subst (λ (r : Result Effect PeerError). IfOk r SendsNone) (sym wanting.0) tt

pub member_kept : (number : Device) (old new : ByName Held) (sessions : ByDevice Session) (linked : List Device) → ChangesOne old new → IsMember number old sessions linked → IsMember number new sessions linked
member_kept number old new sessions linked one member =
    subst (λ (folders : ByName Held). IsMember number folders sessions linked) (sym one.after)
    (record {
      own = own_kept number old one.folder one.was one.now one.before one.stays member.own;
      named = named_kept old sessions one.folder one.was one.now one.before one.others member.named;
      linked_to = member.linked_to;
    })

pub member_remains : (old : Member) (folders : ByName Held) → old.trace ≡ nothing_told → ChangesOne old.folders folders → Remains old (record old { folders = folders })
member_remains old folders told one = record {
  number = refl;
  linked = refl;
  failed = (
    λ some. absurd (let none = subst (λ (t : Trace). IsSome t.failed) told some in cc),
    λ failed. absurd (let rose = rose_here old (record old { folders = folders }) one.folder one.was one.now one.before one.after failed in let same = one.faults in omega arith),
  );
}

-- ---- the steps

-- what makes this row makes each row that follows from it
takes_so : (row so : Row Acted) → ((acted : Acted) (answer : Answer) → row acted answer → so acted answer) → (old new : Member) (result : Result Effect PeerError) → Takes row old new result → Takes so old new result
takes_so row so follows old new (Ok effect) takes = follows _ _ takes
takes_so row so follows old new (Err (Refused refusal)) takes = follows _ _ takes
takes_so row so follows old new (Err Stale) takes = absurd takes
takes_so row so follows old new (Err Memory) takes = takes

-- the device as it is with these folders
abbrev with_folders : Member → ByName Held → Member
with_folders old folders = record old { folders = folders }

module _ (other : Device) (folder : Folder) (old : Member) (held : Held) (has : get old.folders folder ≡ Some held) where
  same_peer : (folders : ByName Held) → IsAsBefore folder held old.folders folders → tables_of (with_folders old folders) ≡ tables_of old
  same_peer folders same =
      ap (λ (replicas : ByName Replica). let made : Peer = record { replicas = replicas; sessions = old.sessions } in made)
      (ap tables_in same ∙ tables-same old.folders folder held (unchanged held) has refl)

  module _ (losing_at : Listing → Type 0) (changed : Listing → Listing) (folders : ByName Held) where
    -- the tables on an error
    pub same_on_error : (result : Result Effect PeerError) → TakesInView folder other held losing_at changed old.folders folders result → OnErr result (tables_of (with_folders old folders) ≡ tables_of old)
    same_on_error result (inl taken) = subst (λ (r : Result Effect PeerError). OnErr r (tables_of (with_folders old folders) ≡ tables_of old)) (sym taken.0) tt
    same_on_error result (inr (inl lost)) = subst (λ (r : Result Effect PeerError). OnErr r (tables_of (with_folders old folders) ≡ tables_of old)) (sym lost.0) tt
    same_on_error result (inr (inr (inl full))) = subst (λ (r : Result Effect PeerError). OnErr r (tables_of (with_folders old folders) ≡ tables_of old)) (sym full.0) (same_peer folders full.3)
    same_on_error result (inr (inr (inr wanting))) = subst (λ (r : Result Effect PeerError). OnErr r (tables_of (with_folders old folders) ≡ tables_of old)) (sym wanting.0) (same_peer folders wanting.3)

    -- the view of the other device became this one
    taken_view : folders ≡ insert old.folders folder (with_viewed held other (changed (view_of held.tables other))) →
        tables_of (with_folders old folders) ≡ with_replica (tables_of old) folder (with_view held.tables other (changed (view_of held.tables other)))
    taken_view is =
        ap (λ (replicas : ByName Replica). let made : Peer = record { replicas = replicas; sessions = old.sessions } in made)
        (ap tables_in is ∙ tables-given old.folders folder (with_viewed held other (changed (view_of held.tables other))))

    -- the row of what is taken into a view
    abbrev InViewRow : Row Acted
    InViewRow =
        ReplicaRow folder (tables_of old) (λ replica.
        when losing_at (view_of replica other)
        then LosingRow (tables_of old)
        else ViewRow other folder (changed (view_of replica other)) replica (tables_of old))

    in_view : (result : Result Effect PeerError) → TakesInView folder other held losing_at changed old.folders folders result → Takes InViewRow old (with_folders old folders) result
    in_view result (inl taken) = subst (λ (r : Result Effect PeerError). Takes InViewRow old (with_folders old folders) r) (sym taken.0) (
      held.tables,
      has_tables old.folders folder held has,
      inr (taken.1, inr (taken.2, (ap taken_by (taken_view taken.3), refl))),
    )
    in_view result (inr (inl lost)) = subst (λ (r : Result Effect PeerError). Takes InViewRow old (with_folders old folders) r) (sym lost.0) (
      held.tables,
      has_tables old.folders folder held has,
      inl (lost.1, (ap (λ (peer : Peer). let made : Acted = record { peer = peer; deed = losing } in made) (same_peer folders lost.2), refl)),
    )
    in_view result (inr (inr (inl full))) = subst (λ (r : Result Effect PeerError). Takes InViewRow old (with_folders old folders) r) (sym full.0) (
      held.tables,
      has_tables old.folders folder held has,
      inr (full.1, inl (full.2, (ap idle (same_peer folders full.3), refl))),
    )
    in_view result (inr (inr (inr wanting))) = subst (λ (r : Result Effect PeerError). Takes InViewRow old (with_folders old folders) r) (sym wanting.0) (same_peer folders wanting.3)

  module _ (failed : Option ℕ) (full : Bool) (session : Session) (named : IsNamed session folder) (batch : List Entry) (folders : ByName Held) (result : Result Effect PeerError) where
    pub index_taken : TakesInView folder other held (λ view. ⊥) (λ view. replaced view batch) old.folders folders result →
        Takes (MessageRow other failed full session (messages.Index folder batch) (tables_of old)) old (with_folders old folders) result
    index_taken takes =
        takes_so (InViewRow (λ view. ⊥) (λ view. replaced view batch) folders) (MessageRow other failed full session (messages.Index folder batch) (tables_of old))
        (λ acted answer row. inl (named, (row.0, row.1, kept row.0 acted answer row.2)))
        old (with_folders old folders) result (in_view (λ view. ⊥) (λ view. replaced view batch) folders result takes)
      where
        kept : (replica : Replica) (acted : Acted) (answer : Answer) → (when ⊥ then LosingRow (tables_of old) else ViewRow other folder (replaced (view_of replica other) batch) replica (tables_of old)) acted answer →
            ViewRow other folder (replaced (view_of replica other) batch) replica (tables_of old) acted answer
        kept replica acted answer (inl never) = absurd never.0
        kept replica acted answer (inr row) = row.1

    pub update_taken : TakesInView folder other held (λ view. IsOld view.sequence batch) (λ view. amended view batch) old.folders folders result →
        Takes (MessageRow other failed full session (messages.IndexUpdate folder batch) (tables_of old)) old (with_folders old folders) result
    update_taken takes =
        takes_so (InViewRow (λ view. IsOld view.sequence batch) (λ view. amended view batch) folders) (MessageRow other failed full session (messages.IndexUpdate folder batch) (tables_of old))
        (λ acted answer row. inl (named, row))
        old (with_folders old folders) result (in_view (λ view. IsOld view.sequence batch) (λ view. amended view batch) folders result takes)

-- an Index of too many names is refused
pub index_full : (other : Device) (folder : Folder) (member : Member) (failed : Option ℕ) (full : Bool) (session : Session) (batch : List Entry) (held : Held) → IsNamed session folder → get member.folders folder ≡ Some held →
    MAX_NAMES < len (with_all empty batch) → Takes (MessageRow other failed full session (messages.Index folder batch) (tables_of member)) member member (Err (Refused IndexFull))
index_full other folder member failed full session batch held named has many = inl (named, (held.tables, has_tables member.folders folder held has, inl (many, (refl, refl))))
