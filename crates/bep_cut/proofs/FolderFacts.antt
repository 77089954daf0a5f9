-- What a device has of a folder, and what reading its store does to it.
use Rattle.std.proofs.Common.{◌≡◌, ◌<◌, ◌∙◌, ℕ, Bool, true, false, cond, List, [], ◌∷◌, map, set, length, get_or, arith, ◌+◌, ◌++◌, drop, flat_map, Option, Some, None, IsSome, IfSome, Result, Err, option_map, refl, sym, ap, subst}
use Rattle.std.proofs.Math.Path.{fun_ext}
use Rattle.std.specs.Ordering.{nat_cmp, eq_by_cmp}
use Rattle.std.specs.Cmp.Lexicographic.{slice_cmp, nat_list_cmp_total}
use Rattle.std.specs.FinMap.{get, get-insert}
use Rattle.std.specs.List.{AllByRecursion, slice_get}
use Rattle.std.proofs.Math.Seq.{map-set_same}
use Rattle.std.proofs.lemmas.List.{append_assoc, get_or-map, get_or-set_same, length-map, length-set}
use Rattle.std.proofs.lemmas.Map.Lookups.{exact_bytes}
use Rattle.std.proofs.lemmas.Option.{slice_get-get_or, slice_get-map}
use Rattle.bep_facts.specs.Maps.{get-insert_here, same_key}
use Rattle.bep_facts.specs.Places.{rest_at}
use Rattle.bep_map.specs.NameMap.{ByName}
use Rattle.bep_record.specs.declared.node.NodeParts.{NodeParts}
use Rattle.bep_model.specs.Tables.{Device, Folder}
use Rattle.bep_machine.specs.declared.refusal.Refusal.{Refusal}
use Rattle.bep_machine.specs.declared.refusal.Refusal.TheVariants.{CounterFull, TooManyCounters, NameBad, SequenceFull, IndexFull, StoreFault, Unscanned, NotNeeded, BlocksMissing, CopyExists, PullsFull, KindForbids, IndexIdOld, LinkDown, LinkFull, EpochFull, NotBegun, NotShared, NothingToDo}
use Rattle.bep_machine.specs.Replica.{Replica}
use Rattle.bep_folder.specs.Held.{Held}
use Rattle.bep_peer.specs.declared.error.PeerError.{PeerError}
use Rattle.bep_peer.specs.declared.error.PeerError.TheVariants.{Refused, Stale, Memory}
use Rattle.bep_peer.specs.Contents.{IsReadIn, ReadsOutIn}
use Rattle.bep_peer.specs.Laws.{TablesAreFound}
use Rattle.bep_peer.specs.Member.{Member}
use Rattle.bep_cut.specs.Share.{IsSoundAt, share_cut}
use Rattle.bep_cut.specs.Cut.{IsSoundIn, Seen, seen, share_at, shared_by}
use Rattle.bep_cut.specs.declared.error.CutError.{CutError}
use Rattle.bep_cut.specs.declared.error.CutError.TheVariants as cuts
use Rattle.bep_cut.specs.Parts.{Counts, CountsAll, HasRisen, HaveRisen, error_of, faults_of}

-- ---- what the device has of the folder

module _ (law : TablesAreFound) (member : Member) (folder : Folder) where
  pub no_share : get member.folders folder ≡ None → share_at folder (seen member) ≡ []
  no_share none = ap (shared_by member.number) (law member folder ∙ ap (option_map (λ (h : Held). h.tables)) none)

  pub none_sound : get member.folders folder ≡ None → IsSoundIn folder (seen member)
  none_sound none =
      subst (λ (o : Option Replica). IfSome o (IsSoundAt member.number)) (sym (law member folder ∙ ap (option_map (λ (h : Held). h.tables)) none)) tt

  module _ (held : Held) (is : get member.folders folder ≡ Some held) (own : held.device ≡ member.number) where
    pub one_share : share_at folder (seen member) ≡ share_cut held.device held.tables ∷ []
    one_share =
        ap (shared_by member.number) (law member folder ∙ ap (option_map (λ (h : Held). h.tables)) is)
        ∙ ap (λ (d : Device). share_cut d held.tables ∷ []) (sym own)

    pub one_sound : IsSoundAt held.device held.tables → IsSoundIn folder (seen member)
    one_sound sound =
        subst (λ (o : Option Replica). IfSome o (IsSoundAt member.number)) (sym (law member folder ∙ ap (option_map (λ (h : Held). h.tables)) is))
        (subst (λ (d : Device). IsSoundAt d held.tables) own sound)

-- ---- once its store was read

abbrev count : Option Held → Option ℕ
count = option_map (λ (h : Held). h.faults)

module _ (old new : Member) (folder : Folder) (read : IsReadIn folder old new) where
  pub now_there : get new.folders folder ≡ Some read.after
  now_there = ap (λ (m : Member). get m.folders folder) read.now ∙ get-insert_here nat_list_cmp_total exact_bytes old.folders folder read.after

  pub same_faults : read.after.faults ≡ read.before.faults → faults_of new ≡ faults_of old
  same_faults same = fun_ext (λ other. ap (λ (m : Member). faults_of m other) read.now ∙ ap count (get-insert nat_list_cmp_total old.folders folder read.after other) ∙ at other (eq_by_cmp (slice_cmp nat_cmp) other folder) refl)
    where
      at : (other : Folder) (b : Bool) → eq_by_cmp (slice_cmp nat_cmp) other folder ≡ b → count (cond b (Some read.after) (get old.folders other)) ≡ count (get old.folders other)
      at other true tied =
          let one = same_key exact_bytes other folder tied in
          ap Some same ∙ sym (ap count (ap (get old.folders) one ∙ read.there))
      at other false apart = refl

  pub has_risen : read.before.faults < read.after.faults → HasRisen (faults_of old) (faults_of new)
  has_risen rose = record {
    folder = folder;
    was = read.before.faults;
    now = read.after.faults;
    before = ap count read.there;
    after = ap count now_there;
    rose = rose;
  }

  -- what was read is what the store holds
  pub is_held : (nodes : ByName NodeParts) → nodes ≡ read.before.tables.store → IfSome (get new.folders folder) (λ held. nodes ≡ held.tables.store)
  is_held nodes right =
      subst (λ (o : Option Held). IfSome o (λ held. nodes ≡ held.tables.store)) (sym now_there)
      (right ∙ ap (λ (r : Replica). r.store) (sym read.tables))

-- where the device has the folder, a refusal is the store's
pub fault_of : (old new : Member) (folder : Folder) (refusal : Refusal) → IsSome (get old.folders folder) → ReadsOutIn folder old new (Err (Refused refusal)) → HasRisen (faults_of old) (faults_of new)
fault_of old new folder StoreFault has reads = has_risen old new folder reads.0 reads.1
fault_of old new folder NotShared has reads =
    let none : IsSome {T = Held} None = subst (λ (o : Option Held). IsSome o) reads.0 has in absurd (cc)
fault_of old new folder CounterFull has reads = absurd reads
fault_of old new folder TooManyCounters has reads = absurd reads
fault_of old new folder NameBad has reads = absurd reads
fault_of old new folder SequenceFull has reads = absurd reads
fault_of old new folder IndexFull has reads = absurd reads
fault_of old new folder Unscanned has reads = absurd reads
fault_of old new folder NotNeeded has reads = absurd reads
fault_of old new folder BlocksMissing has reads = absurd reads
fault_of old new folder CopyExists has reads = absurd reads
fault_of old new folder PullsFull has reads = absurd reads
fault_of old new folder KindForbids has reads = absurd reads
fault_of old new folder IndexIdOld has reads = absurd reads
fault_of old new folder LinkDown has reads = absurd reads
fault_of old new folder LinkFull has reads = absurd reads
fault_of old new folder EpochFull has reads = absurd reads
fault_of old new folder NotBegun has reads = absurd reads
fault_of old new folder NothingToDo has reads = absurd reads

pub counted : (old new : Member) (folder : Folder) (error : PeerError) (said : CutError) → IsSome (get old.folders folder) → ReadsOutIn folder old new (Err error) → said ≡ error_of error →
    Counts {A = ByName NodeParts} (faults_of old) (faults_of new) (Err said)
counted old new folder error said has reads is =
    subst (λ (e : CutError). Counts {A = ByName NodeParts} (faults_of old) (faults_of new) (Err e)) (sym is) (cases error reads)
  where
    cases : (error : PeerError) → ReadsOutIn folder old new (Err error) → Counts {A = ByName NodeParts} (faults_of old) (faults_of new) (Err (error_of error))
    cases Memory reads = same_faults old new folder reads.0 reads.1
    cases (Refused refusal) reads = fault_of old new folder refusal has reads
    cases Stale reads = absurd reads

-- ---- one device of several

-- what is seen of them, and how often their stores failed, is as before
module _ (first all : List Member) (place : ℕ) (one other : Member) (below : place < length all) (is : one ≡ get_or all place one) where
  pub still_same : {Y : Type 0} (f : Member → Y) → f other ≡ f one → map f all ≡ map f first → map f (set all place other) ≡ map f first
  still_same f same before = map-set_same f all place other one (same ∙ ap f is) ∙ before

  -- one failed, of those whose stores failed as often as at first
  pub one_risen : map faults_of all ≡ map faults_of first → HasRisen (faults_of one) (faults_of other) → HaveRisen (map faults_of first) (map faults_of (set all place other))
  one_risen same risen = record {
    place = place;
    old = faults_of one;
    new = faults_of other;
    was_there =
        ap (λ (counts : List (Folder → Option ℕ)). slice_get counts place) (sym same)
        ∙ slice_get-map faults_of all place
        ∙ ap (option_map faults_of) (slice_get-get_or all place one below ∙ ap Some (sym is));
    is_there =
        slice_get-map faults_of (set all place other) place
        ∙ ap (option_map faults_of) (slice_get-get_or (set all place other) place other (omega (arith, length-set all place other)) ∙ ap Some (get_or-set_same all place other other below));
    risen = risen;
  }

  -- the same of what is counted at an error
  pub counts_all : {B : Type 0} (result : Result B CutError) (error : CutError) → result ≡ Err error → map faults_of all ≡ map faults_of first → Counts {A = Unit {0}} (faults_of one) (faults_of other) (Err error) →
      CountsAll (map faults_of first) (map faults_of (set all place other)) result
  counts_all {B} result error answers same counts =
      subst (λ (r : Result B CutError). CountsAll (map faults_of first) (map faults_of (set all place other)) r) (sym answers) (cases error counts)
    where
      cases : (error : CutError) → Counts {A = Unit {0}} (faults_of one) (faults_of other) (Err error) → CountsAll {A = B} (map faults_of first) (map faults_of (set all place other)) (Err error)
      cases cuts.StoreFault risen = one_risen same risen
      cases cuts.Memory kept = still_same faults_of kept same

  rest : map seen all ≡ map seen first → drop place (map seen first) ≡ seen one ∷ drop (place + 1) (map seen first)
  rest same =
      subst (λ (l : List Seen). drop place l ≡ seen one ∷ drop (place + 1) l) same
      (rest_at (map seen all) place (seen one) (omega (arith, length-map all seen, below)) (sym (get_or-map seen all place one (seen one) below ∙ ap seen (sym is))))

  -- what was gathered so far with what is left is all of it, one device on
  pub gathered_next : {Y : Type 0} (f : Seen → List Y) (made now whole : List Y) → map seen all ≡ map seen first → now ≡ made ++ f (seen one) → made ++ flat_map f (drop place (map seen first)) ≡ whole →
      now ++ flat_map f (drop (place + 1) (map seen first)) ≡ whole
  gathered_next {Y} f made now whole same pushed before =
      ap (λ (ys : List Y). ys ++ flat_map f (drop (place + 1) (map seen first))) pushed
      ∙ append_assoc made (f (seen one)) (flat_map f (drop (place + 1) (map seen first)))
      ∙ ap (λ (l : List Seen). made ++ flat_map f l) (sym (rest same))
      ∙ before

  pub each_next : (P : Seen → Type 0) → map seen all ≡ map seen first → P (seen one) → AllByRecursion P (drop (place + 1) (map seen first)) → AllByRecursion P (drop place (map seen first))
  each_next P same one later = subst (AllByRecursion P) (sym (rest same)) (one, later)
