-- The names that are known in a folder are those of its devices and of the messages on their way to them.
use Rattle.std.proofs.Common.{◌≡◌, ◌⊎◌, false, Option, Some, None, IsSome, Contains, refl, sym, subst, ◌∙◌, inl, inr, ⊎_elim}
use Rattle.std.specs.Cmp.Lexicographic.{nat_list_cmp_total}
use Rattle.std.specs.FinMap.{get, values}
use Rattle.std.proofs.lemmas.List.Elements.{All-contains}
use Rattle.std.proofs.lemmas.Map.Lookups.{exact_bytes}
use Rattle.bep_facts.specs.Values.{value_at_key, key_of_value}
use Rattle.bep_record.specs.declared.entry.Entry.{Entry}
use Rattle.bep_index.specs.Index.{IsIndex}
use Rattle.bep_model.specs.declared.flight.Flight.{Flight}
use Rattle.bep_model.specs.Tables.{Device, Folder, FileName, Shares}
use Rattle.bep_model.specs.Foreign.{IsViewed, IsFlying, IsForeign, HasTrace, IsKnown}
use Rattle.bep_tables.specs.declared.share.Share.{Share}
use Rattle.bep_tables.specs.declared.share.PeerView.{PeerView}
use Rattle.bep_tables.specs.declared.link.LinkState.{LinkState}
use Rattle.bep_tables.specs.declared.cut.CutParts.{CutParts}
use Rattle.bep_tables.specs.Cut.{IsCut, known_of, shares_of, tables_of}
use Rattle.bep_tables.specs.Laws.{Carries, NamesAreKnown}
use Rattle.bep_tables.proofs.Added.{HasValid, HasName, HasFlown, HasFlownOver, known}
use Rattle.bep_tables.proofs.Tables.{sharing_is_said, own_is_said, node_is_said, viewed_is_said, target_is_said, flying_is_said, receiver_shares, are_views, are_pulls}

-- ---- a device of the folder
-- the share's device shares the folder
device_shares : (cut : CutParts) (folder : Folder) (share : Share) → Contains (shares_of folder cut.folders) share → Shares (tables_of cut) share.device folder
device_shares cut folder share h = (share.kind, (sharing_is_said cut folder share.device share.kind).1 (share, h, refl, refl))

-- a record that a view has stands at its own name
named_in_view : (cut : CutParts) (folder : Folder) (share : Share) (view : PeerView) (name : FileName) (entry : Entry) → IsCut cut → Contains (shares_of folder cut.folders) share → Contains share.views view → get view.records name ≡ Some entry → entry.name ≡ name
named_in_view cut folder share view name entry is_cut h there found =
    let index = All-contains (λ (one : PeerView). IsIndex (known_of one)) share.views view (are_views cut folder share is_cut h).indexes there in
    (index.numbered name entry found).0

-- what a device knows of others at a name
viewed_at : (cut : CutParts) (folder : Folder) (name : FileName) (share : Share) (entry : Entry) → IsCut cut → Contains (shares_of folder cut.folders) share → entry.invalid ≡ false → IsViewed (tables_of cut) share.device folder name entry → HasName share name
viewed_at cut folder name share entry is_cut h valid viewed =
    let held = (viewed_is_said cut folder name entry share is_cut h).0 viewed in
    inl (inr (held.0, held.1, (entry, value_at_key held.0.records name entry held.2, (valid, named_in_view cut folder share held.0 name entry is_cut h held.1 held.2))))

foreign_in_view : (cut : CutParts) (folder : Folder) (name : FileName) (share : Share) (view : PeerView) → IsCut cut → Contains (shares_of folder cut.folders) share → Contains share.views view → HasValid (values view.records) name → (entry : Entry) × IsForeign (tables_of cut) share.device folder name entry
foreign_in_view cut folder name share view is_cut h there has =
    let at = key_of_value nat_list_cmp_total exact_bytes view.records has.0 has.1 in
    let same : at.0 ≡ name = sym (named_in_view cut folder share view at.0 has.0 is_cut h there at.1) ∙ has.2.1 in
    let found : get view.records name ≡ Some has.0 = subst (λ n. get view.records n ≡ Some has.0) same at.1 in
    (has.0, record { known_by = inl ((viewed_is_said cut folder name has.0 share is_cut h).1 (view, there, found)); valid = has.2.0 })

foreign_pull : (cut : CutParts) (folder : Folder) (name : FileName) (share : Share) → IsCut cut → Contains (shares_of folder cut.folders) share → IsSome (get share.pulls name) → (entry : Entry) × IsForeign (tables_of cut) share.device folder name entry
foreign_pull cut folder name share is_cut h some = cases (get share.pulls name) refl some where
  cases : (pull : Option Entry) → get share.pulls name ≡ pull → IsSome pull → (entry : Entry) × IsForeign (tables_of cut) share.device folder name entry
  cases None e none = absurd (cc)
  cases (Some entry) e some = (
    entry,
    record {
      known_by = inr (inr (target_is_said cut folder name share is_cut h ∙ e));
      valid = ((are_pulls cut folder share is_cut h).named name entry e).1;
    },
  )

-- a device that has the name has a trace of it
trace_of_share : (cut : CutParts) (folder : Folder) (name : FileName) (share : Share) → IsCut cut → Contains (shares_of folder cut.folders) share → HasName share name → HasTrace (tables_of cut) share.device folder name
trace_of_share cut folder name share is_cut h (inl (inl (inl own))) = inr (inl (subst IsSome (sym (own_is_said cut folder name share is_cut h)) own))
trace_of_share cut folder name share is_cut h (inl (inl (inr store))) = inl (subst IsSome (sym (node_is_said cut folder name share is_cut h)) store)
trace_of_share cut folder name share is_cut h (inl (inr view)) = inr (inr (foreign_in_view cut folder name share view.0 is_cut h view.1 view.2))
trace_of_share cut folder name share is_cut h (inr pull) = inr (inr (foreign_pull cut folder name share is_cut h pull))

-- ---- a message
-- a valid record of the name that flies to a device
known_by_flight : (cut : CutParts) (folder : Folder) (name : FileName) (link : LinkState) (device : Device) (flight : Flight) → IsCut cut → Contains cut.links link → Carries link device flight → HasFlown folder flight name → IsKnown (tables_of cut) folder name
known_by_flight cut folder name link device flight is_cut h carries flown =
    let has = flown.1 in
    let flying = (flying_is_said cut device folder name has.0 is_cut).1 (link, flight, h, carries, (flown.0, has.1, has.2.1)) in (
      device,
      subst (Shares (tables_of cut) device) flown.0 (receiver_shares cut link device flight is_cut h carries),
      inr (inr (has.0, record { known_by = inr (inl flying); valid = has.2.0 })),
    )

known_over_link : (cut : CutParts) (folder : Folder) (name : FileName) (link : LinkState) → IsCut cut → Contains cut.links link → HasFlownOver folder link name → IsKnown (tables_of cut) folder name
known_over_link cut folder name link is_cut h (inl to_a) = known_by_flight cut folder name link link.a to_a.0 is_cut h (inl (refl, to_a.1)) to_a.2
known_over_link cut folder name link is_cut h (inr to_b) = known_by_flight cut folder name link link.b to_b.0 is_cut h (inr (refl, to_b.1)) to_b.2

flown_over : (cut : CutParts) (folder : Folder) (name : FileName) (device : Device) (entry : Entry) → IsCut cut → entry.invalid ≡ false → IsFlying (tables_of cut) device folder name entry → (link : LinkState) × Contains cut.links link × HasFlownOver folder link name
flown_over cut folder name device entry is_cut valid flying =
    let over = (flying_is_said cut device folder name entry is_cut).0 flying in
    let flown : HasFlown folder over.1 name = (over.4.0, (entry, over.4.1, (valid, over.4.2))) in
    (over.0, over.2, ⊎_elim (λ to_a. inl (over.1, to_a.1, flown)) (λ to_b. inr (over.1, to_b.1, flown)) over.3)

-- ---- the law
-- a device's trace of a name is one of its own, or a message's
abbrev IsSource : CutParts → Folder → FileName → Type 0
IsSource cut folder name =
    ((share : Share) × Contains (shares_of folder cut.folders) share × HasName share name) ⊎ ((link : LinkState) × Contains cut.links link × HasFlownOver folder link name)

source_of_foreign : (cut : CutParts) (folder : Folder) (name : FileName) (share : Share) (entry : Entry) → IsCut cut → Contains (shares_of folder cut.folders) share → IsForeign (tables_of cut) share.device folder name entry → IsSource cut folder name
source_of_foreign cut folder name share entry is_cut h foreign =
    ⊎_elim
    (λ viewed. inl (share, h, viewed_at cut folder name share entry is_cut h foreign.valid viewed))
    (⊎_elim
    (λ flying. inr (flown_over cut folder name share.device entry is_cut foreign.valid flying))
    (λ target. inl (share, h, inr (subst IsSome (sym target ∙ target_is_said cut folder name share is_cut h) refl))))
    foreign.known_by

source_of_trace : (cut : CutParts) (folder : Folder) (name : FileName) (share : Share) → IsCut cut → Contains (shares_of folder cut.folders) share → HasTrace (tables_of cut) share.device folder name → IsSource cut folder name
source_of_trace cut folder name share is_cut h (inl node) = inl (share, h, inl (inl (inr (subst IsSome (node_is_said cut folder name share is_cut h) node))))
source_of_trace cut folder name share is_cut h (inr (inl own)) = inl (share, h, inl (inl (inl (subst IsSome (own_is_said cut folder name share is_cut h) own))))
source_of_trace cut folder name share is_cut h (inr (inr foreign)) = source_of_foreign cut folder name share foreign.0 is_cut h foreign.1

pub names_are_known : NamesAreKnown
names_are_known cut folder name is_cut = (
  λ has. ⊎_elim
      (λ held. (held.0.device, device_shares cut folder held.0 held.1, trace_of_share cut folder name held.0 is_cut held.1 held.2))
      (λ over. known_over_link cut folder name over.0 is_cut over.1 over.2)
      ((known cut folder name).0 has),
  λ is_known.
      let share = (sharing_is_said cut folder is_known.0 is_known.1.0).0 is_known.1.1 in
      let trace = subst (λ device. HasTrace (tables_of cut) device folder name) (sym share.2) is_known.2 in
      (known cut folder name).1 (source_of_trace cut folder name share.0 is_cut share.1 trace),
)
