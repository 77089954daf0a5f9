-- What a document without faults writes down of its devices and folders.
use Rattle.std.proofs.Common.{◌≡◌, ◌≢◌, inr, ℕ, ◌==◌, ◌+◌, ◌≤◌, eq-eqb, true, false, Bool, cond, List, [], ◌∷◌, map, length, All, Contains, sym, ap, subst, ◌∙◌, ⊎_elim, arith}
use Rattle.std.specs.declared.cmp.Ordering.{Ordering}
use Rattle.std.specs.Ordering.{nat_cmp, on}
use Rattle.std.specs.Cmp.{IsTotalOrder, nat_cmp_total}
use Rattle.std.specs.Cmp.Lexicographic.{slice_cmp, nat_list_cmp_total}
use Rattle.std.specs.FinMap.{IsAntisymmetric, empty, insert, len, contains_key, len-insert, len-empty, nat_cmp-IsAntisymmetric}
use Rattle.std.specs.List.{AllByRecursion, filter}
use Rattle.std.specs.List.Sorted.{IsStrictlySortedBy}
use Rattle.std.proofs.lemmas.Map.Keys.{IsStrictlyIncreasing-from_sorted}
use Rattle.bep_facts.specs.Members.{Contains-from_image, Contains-image, holds_of_member, not_in_none}
use Rattle.bep_map.specs.NameMap.{ByName}
use Rattle.bep_record.specs.declared.entry.Entry.{Entry}
use Rattle.bep_index.specs.After.{IsAmong}
use Rattle.bep_index.specs.Batch.{with_all}
use Rattle.bep_index.specs.Index.{IsIndex}
use Rattle.bep_index.specs.declared.limits.TheConstants.{MAX_SEQUENCE}
use Rattle.bep_index.specs.Laws.{HaveIndexNumbers, RecordsMakeAnIndex, RecordsAreFound}
use Rattle.bep_model.specs.Tables.{Device}
use Rattle.bep_document.specs.declared.parts.ShareParts.{ShareParts}
use Rattle.bep_document.specs.declared.parts.ViewParts.{ViewParts}
use Rattle.bep_document.specs.declared.parts.FolderParts.{FolderParts}
use Rattle.bep_document.specs.Faultless.{HasNoKey, KeysDiffer, IsNumbered, IsFaultlessIndex, IsFaultlessShare, IsSharedBy, IsOfAnother, IsFaultlessFolder}
use Rattle.bep_tables.specs.declared.share.Share.{Share}
use Rattle.bep_tables.specs.declared.share.PeerView.{PeerView}
use Rattle.bep_tables.specs.Cut.{HasPoint, AreViews, ArePulls, AreShares, devices_of, index_of, known_of}
use Rattle.bep_cut_document.specs.Sorting.{in_order}
use Rattle.bep_cut_document.specs.Written.{by_viewed, by_device, has_point, view_written, share_written, folder_written}
use Rattle.bep_tables.proofs.Found.{all_from_each, any_gives}
use Rattle.bep_tables.specs.Kept.{from_kept}
use Rattle.bep_cut_document.proofs.KeysKept.{differ_kept}
use Rattle.bep_cut_document.proofs.SortingFacts.{Contains-in_order, in_in_order, rises-in_order}

-- ---- records
among_holds : (P : Entry → Type 0) (entries : List Entry) (entry : Entry) → AllByRecursion P entries → IsAmong entry entries → P entry
among_holds P [] entry all h = absurd h
among_holds P (first ∷ more) entry all h =
    ⊎_elim (λ same. subst P (sym same) all.0) (λ later. among_holds P more entry all.1 later) h

no_sequence : (n : ℕ) (entries : List Entry) (entry : Entry) → HasNoKey (λ (e : Entry). e.sequence) n entries → IsAmong entry entries → entry.sequence ≢ n
no_sequence n [] entry none h = absurd h
no_sequence n (first ∷ more) entry none h =
    ⊎_elim (λ same. subst (λ (e : Entry). e.sequence ≢ n) (sym same) none.0) (λ later. no_sequence n more entry none.1 later) h

one_of_sequence : (entries : List Entry) (one other : Entry) → KeysDiffer (λ (e : Entry). e.sequence) entries → IsAmong one entries → IsAmong other entries → one.sequence ≡ other.sequence → one ≡ other
one_of_sequence [] one other differ h k same = absurd h
one_of_sequence (first ∷ more) one other differ h k same =
    ⊎_elim
    (λ first_one. ⊎_elim
    (λ first_other. first_one ∙ sym first_other)
    (λ later. absurd (no_sequence first.sequence more other differ.0 later (sym same ∙ ap (λ (e : Entry). e.sequence) first_one)))
    k)
    (λ later. ⊎_elim
    (λ first_other. absurd (no_sequence first.sequence more one differ.0 later (same ∙ ap (λ (e : Entry). e.sequence) first_other)))
    (λ later_other. one_of_sequence more one other differ.1 later later_other same)
    k)
    h

numbers : (greatest : ℕ) (entries : List Entry) → IsFaultlessIndex greatest entries → HaveIndexNumbers greatest entries
numbers greatest entries faultless = record {
  within = λ entry h. among_holds (IsNumbered greatest) entries entry faultless.numbered h;
  different = λ one other h k same. one_of_sequence entries one other faultless.sequences h k same;
}

index_written : RecordsMakeAnIndex → (id greatest : ℕ) (entries : List Entry) → IsFaultlessIndex greatest entries → IsIndex (record { id = id; sequence = greatest; records = with_all empty entries })
index_written law id greatest entries faultless =
    law id greatest entries faultless.within faultless.few faultless.names (numbers greatest entries faultless)

-- there are at most as many names as records
len-insert_most : (m : ByName Entry) (name : List ℕ) (entry : Entry) → len (insert m name entry) ≤ len m + 1
len-insert_most m name entry = cases (contains_key m name) (len-insert nat_list_cmp_total m name entry) where
  cases : (b : Bool) → len (insert m name entry) ≡ cond b (len m) (len m + 1) → len (insert m name entry) ≤ len m + 1
  cases true e = omega arith
  cases false e = omega arith

len-with_all : (m : ByName Entry) (entries : List Entry) → len (with_all m entries) ≤ len m + length entries
len-with_all m [] = omega arith
len-with_all m (entry ∷ more) =
    let rest = len-with_all (insert m entry.name entry) more in
    let one = len-insert_most m entry.name entry in
    omega arith

pulls_written : RecordsAreFound → (parts : ShareParts) → IsFaultlessShare parts → ArePulls (share_written parts).pulls
pulls_written found parts faultless = record {
  few =
      let all = len-with_all empty parts.pulls in
      let none = len-empty (slice_cmp nat_cmp) Entry in
      let most = faultless.pulled.few in
      omega arith;
  named = λ name entry is.
      let listed = (found parts.pulls name entry faultless.pulled.names).0 is in
      (listed.1, among_holds (λ e. e.invalid ≡ false) parts.pulls entry faultless.pulled.valid listed.0);
  within = λ name entry is.
      let listed = (found parts.pulls name entry faultless.pulled.names).0 is in
      among_holds (λ e. e.sequence ≤ MAX_SEQUENCE) parts.pulls entry faultless.pulled.within listed.0;
}

-- ---- what is written in order
pub differ_written : {A B K : Type 0} (key : B → K) (written : A → B) (parts : List A) → KeysDiffer (λ part. key (written part)) parts → KeysDiffer key (map written parts)
differ_written key written [] differ = tt
differ_written {A = A} {K = K} key written (part ∷ more) differ = (none (key (written part)) more differ.0, differ_written key written more differ.1) where
  none : (k : K) (parts : List A) → HasNoKey (λ p. key (written p)) k parts → HasNoKey key k (map written parts)
  none k [] h = tt
  none k (p ∷ ps) h = (h.0, none k ps h.1)

sorted_none : {K A : Type 0} (R : K → K → Ordering) (key : A → K) → IsStrictlySortedBy R (map key [])
unfolding IsStrictlySortedBy
sorted_none R key = tt

-- what parts of different keys write down rises in its order
pub rise_written : {A B K : Type 0} {R : K → K → Ordering} (o : IsTotalOrder R) → IsAntisymmetric R → (key : B → K) (written : A → B) (parts : List A) → KeysDiffer (λ part. key (written part)) parts → IsStrictlySortedBy R (map key (in_order (on key R) [] (map written parts)))
rise_written {K = K} {R = R} o exact key written parts differ =
    rises-in_order o exact key [] (map written parts) (sorted_none R key) (differ_written key written parts differ)
    (λ z h. nothing key (λ k. k ≢ key z))
  where
    nothing : {X : Type 0} (key : X → K) (P : K → Type 0) → AllByRecursion P (map key [])
    nothing key P = tt

-- an item in order was written of some part, and each part's item is there
pub from_part : {A B : Type 0} (order : B → B → Ordering) (written : A → B) (parts : List A) (z : B) → Contains (in_order order [] (map written parts)) z → (part : A) × Contains parts part × (written part ≡ z)
from_part order written parts z h =
    ⊎_elim (λ none. absurd (not_in_none z none)) (λ later. Contains-from_image written parts z later) (Contains-in_order order [] (map written parts) z h)

pub part_there : {A B : Type 0} (order : B → B → Ordering) (written : A → B) (parts : List A) (part : A) → Contains parts part → Contains (in_order order [] (map written parts)) (written part)
part_there order written parts part h =
    in_in_order order [] (map written parts) (written part) (inr (Contains-image written parts part h))

-- ---- the devices of a folder
-- a device that the document has in the folder shares it
pub device_written : (parts : FolderParts) (device : Device) → IsSharedBy device parts → Contains (devices_of (folder_written parts).shares) device
device_written parts device has =
    let share = any_gives (λ (s : ShareParts). s.device ≡ device) parts.devices has in
    subst (Contains (devices_of (folder_written parts).shares)) share.2
    (Contains-image (λ (s : Share). s.device) (folder_written parts).shares (share_written share.0) (part_there by_device share_written parts.devices share.0 share.1))

-- a view was written of a listed one, of which something is known
pub view_part : (share : ShareParts) (view : PeerView) → Contains (share_written share).views view → (part : ViewParts) × Contains share.views part × (view_written part ≡ view) × (has_point part ≡ true)
view_part share view h =
    let part = from_part by_viewed view_written (filter has_point share.views) view h in
    let listed = from_kept has_point share.views part.0 part.1 in
    (part.0, listed.0, part.2, listed.1)

point_told : (part : ViewParts) → has_point part ≡ true → HasPoint (view_written part)
point_told part has at =
    let id : (part.index_id == 0) ≡ true = eq-eqb part.index_id 0 at.0 in
    let max : (part.max == 0) ≡ true = eq-eqb part.max 0 at.1 in
    absurd (cc)

views_written : RecordsMakeAnIndex → (parts : FolderParts) (share : ShareParts) → IsFaultlessShare share → AllByRecursion (IsOfAnother parts share) share.views → AreViews (devices_of (folder_written parts).shares) share.device (share_written share).views
views_written law parts share faultless others = record {
  rise = IsStrictlyIncreasing-from_sorted (map (λ (view : PeerView). view.of) (share_written share).views)
      (rise_written nat_cmp_total nat_cmp-IsAntisymmetric (λ (view : PeerView). view.of) view_written (filter has_point share.views) (differ_kept has_point (λ (view : ViewParts). view.of) share.views faultless.viewed));
  others = all_from_each (λ (view : PeerView). (view.of ≢ share.device) × Contains (devices_of (folder_written parts).shares) view.of) (share_written share).views (λ view h.
      let part = view_part share view h in
      let other = holds_of_member (IsOfAnother parts share) share.views part.0 others part.1 in
      subst (λ (v : PeerView). (v.of ≢ share.device) × Contains (devices_of (folder_written parts).shares) v.of) part.2 (other.0, device_written parts part.0.of other.1));
  indexes = all_from_each (λ view. IsIndex (known_of view)) (share_written share).views (λ view h.
      let part = view_part share view h in
      let known = holds_of_member (λ (v : ViewParts). IsFaultlessIndex v.max v.records) share.views part.0 faultless.views part.1 in
      subst (λ v. IsIndex (known_of v)) part.2 (index_written law part.0.index_id part.0.max part.0.records known));
  known = all_from_each HasPoint (share_written share).views (λ view h.
      let part = view_part share view h in
      subst HasPoint part.2 (point_told part.0 part.3));
}

pub shares_in_order : RecordsMakeAnIndex → RecordsAreFound → (parts : FolderParts) → IsFaultlessFolder parts → AreShares (folder_written parts).shares
shares_in_order law found parts faultless = record {
  rise = IsStrictlyIncreasing-from_sorted (devices_of (folder_written parts).shares)
      (rise_written nat_cmp_total nat_cmp-IsAntisymmetric (λ (share : Share). share.device) share_written parts.devices faultless.different);
  indexes = each (λ share. IsIndex (index_of share)) (λ part h.
      index_written law part.index_id part.max part.own (at part h).own_records);
  views = each (λ share. AreViews (devices_of (folder_written parts).shares) share.device share.views) (λ part h.
      views_written law parts part (at part h)
      (holds_of_member (λ (share : ShareParts). AllByRecursion (IsOfAnother parts share) share.views) parts.devices part faultless.views h));
  pulls = each (λ share. ArePulls share.pulls) (λ part h. pulls_written found part (at part h));
}
  where
    at : (part : ShareParts) → Contains parts.devices part → IsFaultlessShare part
    at part h = holds_of_member IsFaultlessShare parts.devices part faultless.shares h

    each : (P : Share → Type 0) → ((part : ShareParts) → Contains parts.devices part → P (share_written part)) → All P (folder_written parts).shares
    each P of_part = all_from_each P (folder_written parts).shares (λ share h.
        let part = from_part by_device share_written parts.devices share h in
        subst P part.2 (of_part part.0 part.1))
