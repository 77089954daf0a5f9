-- Reading a folder's store leaves the device as it was, and tells whether it failed.
use Rattle.std.proofs.Common.{◌≡◌, ◌⊎◌, ◌<◌, ℕ, Option, IsSome, Result, Ok, Err, IfOk, IfErr, List, inl, inr, refl, sym, ap, subst, ◌∙◌, arith}
use Rattle.std.specs.FinMap.{get}
use Rattle.std.specs.Cmp.Lexicographic.{nat_list_cmp_total}
use Rattle.std.proofs.lemmas.Map.Lookups.{exact_bytes}
use Rattle.bep_facts.specs.Maps.{get-insert_here}
use Rattle.bep_record.specs.declared.node.NodeParts.{NodeParts}
use Rattle.bep_model.specs.Tables.{Device, Folder, FileName}
use Rattle.bep_map.specs.NameMap.{ByName}
use Rattle.bep_machine.specs.Peer.{Session, Peer}
use Rattle.bep_machine.specs.Replica.{ByDevice, Replica}
use Rattle.bep_folder.specs.declared.error.FolderError.{FolderError}
use Rattle.bep_folder.specs.declared.error.FolderError.TheVariants.{StoreFault, Memory}
use Rattle.bep_folder.specs.Held.{Held}
use Rattle.bep_folder.specs.Makes.{CountsFaults}
use Rattle.bep_peer.specs.Member.{Member, IsMember, Remains, tables_in}
use Rattle.bep_peer.specs.inner.Request.{ReadsFrom, IsNodeAt, failed_by}
use Rattle.bep_peer.proofs.MemberFacts.{tables-same, own_kept, named_kept, rose_here}

pub read_tables : (old new : ByName Held) (folder : Folder) (name : FileName) (result : Result (Option NodeParts) FolderError) → ReadsFrom folder name old new result → tables_in new ≡ tables_in old
read_tables old new folder name result read = ap tables_in read.after ∙ tables-same old folder read.was read.now read.before read.same

-- a device's tables, of these replicas and sessions
abbrev peer_of : ByDevice Session → ByName Replica → Peer
peer_of sessions replicas = record { replicas = replicas; sessions = sessions }

pub read_peer : (sessions : ByDevice Session) (old new : ByName Held) (folder : Folder) (name : FileName) (result : Result (Option NodeParts) FolderError) → ReadsFrom folder name old new result →
    peer_of sessions (tables_in new) ≡ peer_of sessions (tables_in old)
read_peer sessions old new folder name result read = ap (peer_of sessions) (read_tables old new folder name result read)

pub read_node : (old new : ByName Held) (folder : Folder) (name : FileName) (result : Result (Option NodeParts) FolderError) → ReadsFrom folder name old new result → IfOk result (IsNodeAt old folder name)
read_node old new folder name (Ok found) read = (read.was, read.before, read.node)
read_node old new folder name (Err e) read = tt

pub read_member : (number : Device) (old new : ByName Held) (sessions : ByDevice Session) (linked : List Device) (folder : Folder) (name : FileName) (result : Result (Option NodeParts) FolderError) → ReadsFrom folder name old new result → IsMember number old sessions linked → IsMember number new sessions linked
read_member number old new sessions linked folder name result read member =
    subst (λ (folders : ByName Held). IsMember number folders sessions linked) (sym read.after)
    (record {
      own = own_kept number old folder read.was read.now read.before read.stays member.own;
      named = named_kept old sessions folder read.was read.now read.before (ap (λ (r : Replica). r.others) read.same) member.named;
      linked_to = member.linked_to;
    })

-- the read failed exactly where the count of faults rose
told_rose : (was now : Held) (result : Result (Option NodeParts) FolderError) → CountsFaults was now result → IfErr result (λ e. (e ≡ StoreFault) ⊎ (e ≡ Memory)) → IsSome (failed_by result) → was.faults < now.faults
told_rose was now (Ok found) counted only told = absurd (cc)
told_rose was now (Err e) counted (inl fault) told = (subst (λ e. CountsFaults {A = Option NodeParts} was now (Err e)) fault counted).0
told_rose was now (Err e) counted (inr memory) told = absurd (let none = subst (λ (e : FolderError). IsSome (failed_by (Err e))) memory told in cc)

rose_told : (was now : Held) (result : Result (Option NodeParts) FolderError) → CountsFaults was now result → IfErr result (λ e. (e ≡ StoreFault) ⊎ (e ≡ Memory)) → was.faults < now.faults → IsSome (failed_by result)
rose_told was now (Ok found) counted only rose = absurd (let same = counted.0 in omega arith)
rose_told was now (Err e) counted (inl fault) rose = subst (λ (e : FolderError). IsSome (failed_by (Err e))) (sym fault) refl
rose_told was now (Err e) counted (inr memory) rose = absurd (let same = (subst (λ e. CountsFaults {A = Option NodeParts} was now (Err e)) memory counted).0 in omega arith)

pub read_remains : (old new : Member) (folder : Folder) (name : FileName) (result : Result (Option NodeParts) FolderError) → ReadsFrom folder name old.folders new.folders result →
    new.number ≡ old.number → new.linked ≡ old.linked → new.trace.failed ≡ failed_by result → Remains old new
read_remains old new folder name result read number linked told = record {
  number = number;
  linked = linked;
  failed = (
    λ some. record {
      folder = folder;
      was = read.was;
      now = read.now;
      before = read.before;
      after = ap (λ folders. get folders folder) read.after ∙ get-insert_here nat_list_cmp_total exact_bytes old.folders folder read.now;
      rose = told_rose read.was read.now result read.counted read.only (subst (λ (t : Option ℕ). IsSome t) told some);
    },
    λ failed. subst (λ (t : Option ℕ). IsSome t) (sym told) (rose_told read.was read.now result read.counted read.only (rose_here old new folder read.was read.now read.before read.after failed)),
  );
}
