-- What a device knows of others, from what the document lists.
use Rattle.std.proofs.Common.{◌≡◌, ◌↔◌, ◌==◌, ◌||◌, not, eqb-true, arith, Bool, true, false, map, Option, Some, None, Contains, option_and_then, refl, sym, ap, ◌∙◌}
use Rattle.std.specs.Ordering.{nat_cmp, is_eq}
use Rattle.std.specs.Cmp.{nat_cmp_total, Equal-is}
use Rattle.std.specs.List.{filter}
use Rattle.std.specs.FinMap.{get, nat_cmp-IsAntisymmetric}
use Rattle.std.proofs.lemmas.Map.Keys.{sorted_from_strictly_increasing}
use Rattle.bep_facts.specs.Members.{holds_of_member}
use Rattle.bep_record.specs.declared.entry.Entry.{Entry}
use Rattle.bep_index.specs.Laws.{RecordsAreFound}
use Rattle.bep_model.specs.Tables.{Device, FileName}
use Rattle.bep_document.specs.declared.parts.ShareParts.{ShareParts}
use Rattle.bep_document.specs.declared.parts.ViewParts.{ViewParts}
use Rattle.bep_document.specs.Faultless.{IsNumbered, IsFaultlessIndex, IsFaultlessShare}
use Rattle.bep_tables.specs.declared.share.PeerView.{PeerView}
use Rattle.bep_cut_document.specs.AsWritten.{ViewedIsAsWritten}
use Rattle.bep_tables.specs.Cut.{view_of}
use Rattle.bep_cut_document.specs.Written.{by_viewed, has_point, view_written, share_written, cut_written}
use Rattle.bep_tables.proofs.Found.{found_itself, find_gives}
use Rattle.bep_tables.proofs.Tables.{are_views, viewed_by_share}
use Rattle.bep_tables.specs.Kept.{kept}
use Rattle.bep_cut_document.proofs.WrittenFacts.{part_there, view_part}
use Rattle.bep_cut_document.proofs.CutWritten.{CutIsWritten}
use Rattle.bep_cut_document.proofs.AsWrittenFacts.{faultless_share, found_as_listed, share_there}

-- the record that a listed view has of a name is the one that it lists
view_lists : RecordsAreFound → (share : ShareParts) (view : ViewParts) (name : FileName) (entry : Entry) → IsFaultlessShare share → Contains share.views view → (get (view_written view).records name ≡ Some entry) ↔ (Contains view.records entry × (entry.name ≡ name))
view_lists found share view name entry faultless h =
    found_as_listed found view.records name entry (holds_of_member (λ (v : ViewParts). IsFaultlessIndex v.max v.records) share.views view faultless.views h).names

-- something is known where a record is listed
listed_has_point : (share : ShareParts) (view : ViewParts) (entry : Entry) → IsFaultlessShare share → Contains share.views view → Contains view.records entry → has_point view ≡ true
listed_has_point share view entry faultless h listed = cases (view.index_id == 0) (view.max == 0) refl where
  numbered : IsNumbered view.max entry
  numbered =
      holds_of_member (IsNumbered view.max) view.records entry
      (holds_of_member (λ (v : ViewParts). IsFaultlessIndex v.max v.records) share.views view faultless.views h).numbered listed

  no_greatest : (view.max == 0) ≡ true → ⊥
  no_greatest e =
      let none = eqb-true view.max 0 e in
      let from = numbered.0 in
      let to = numbered.1 in
      omega arith

  cases : (a b : Bool) → (view.max == 0) ≡ b → (not a || not b) ≡ true
  cases a true e = absurd (no_greatest e)
  cases true false e = refl
  cases false false e = refl

-- what a device's views have of a name is what the document lists in one of them
abbrev IsListed : ShareParts → Device → FileName → Entry → Type 0
IsListed share other name entry =
    (view : ViewParts) × Contains share.views view × (view.of ≡ other) × Contains view.records entry × (entry.name ≡ name)

listed_from_view : RecordsAreFound → (share : ShareParts) (other : Device) (name : FileName) (entry : Entry) → IsFaultlessShare share → (held : Option PeerView) → view_of other (share_written share).views ≡ held → option_and_then (λ (view : PeerView). get view.records name) held ≡ Some entry → IsListed share other name entry
listed_from_view found share other name entry faultless None e is = absurd (different is) where
  different : ◌≡◌ {A = Option Entry} None (Some entry) → ⊥
  different e = cc
listed_from_view found share other name entry faultless (Some held) e is =
    let gives = find_gives (λ (view : PeerView). is_eq (nat_cmp view.of other)) (share_written share).views held e in
    let of_other = nat_cmp-IsAntisymmetric held.of other ((Equal-is _).0 gives.1) in
    let part = view_part share held gives.0 in
    let has = (view_lists found share part.0 name entry faultless part.1).0 (ap (λ (view : PeerView). get view.records name) part.2 ∙ is) in
    (part.0, part.1, ap (λ (view : PeerView). view.of) part.2 ∙ of_other, has.0, has.1)

pub viewed_is_as_written : CutIsWritten → RecordsAreFound → ViewedIsAsWritten
viewed_is_as_written is_cut found parts folder share other name entry faultless h =
    let cut = is_cut parts faultless in
    let there = share_there is_cut parts folder share faultless h in
    let faultless_here = faultless_share parts folder share faultless h in
    let viewed = viewed_by_share (cut_written parts.folders parts.links) folder.folder name (share_written share) other cut there in (
      λ is. listed_from_view found share other name entry faultless_here (view_of other (share_written share).views) refl (sym viewed ∙ is),
      λ listed.
          let rise = sorted_from_strictly_increasing (map (λ (view : PeerView). view.of) (share_written share).views) (are_views (cut_written parts.folders parts.links) folder.folder (share_written share) cut there).rise in
          let itself = found_itself nat_cmp_total (λ (view : PeerView). view.of) (share_written share).views (view_written listed.0) rise (part_there by_viewed view_written (filter has_point share.views) listed.0 (kept has_point share.views listed.0 listed.1 (listed_has_point share listed.0 entry faultless_here listed.1 listed.3))) in
          let held = ap (λ one. view_of one (share_written share).views) (sym listed.2) ∙ itself in
          viewed ∙ ap (option_and_then (λ (view : PeerView). get view.records name)) held
          ∙ (view_lists found share listed.0 name entry faultless_here listed.1).1 (listed.3, listed.4),
    )
