-- What the laws of cuts say of known names and of the devices that share a folder.
use Rattle.std.proofs.Common.{◌≡◌, ◌↔◌, false, List, Contains, Option, Some, IsSome, is_some, refl, sym, ap, subst, ◌∙◌, inl, inr, ⊎_elim}
use Rattle.std.specs.FinMap.{get}
use Rattle.std.specs.List.Sorted.{IsStrictlyIncreasing}
use Rattle.std.proofs.lemmas.List.Elements.{All-contains}
use Rattle.bep_record.specs.declared.node.NodeParts.{NodeParts}
use Rattle.bep_record.specs.declared.entry.Entry.{Entry}
use Rattle.bep_model.specs.declared.flight.Flight.{Flight}
use Rattle.bep_model.specs.Tables.{Device, Folder, FileName, Shares}
use Rattle.bep_model.specs.Foreign.{IsFlying, IsForeign, HasTrace, IsKnown}
use Rattle.bep_tables.specs.declared.share.Share.{Share}
use Rattle.bep_tables.specs.declared.link.LinkState.{LinkState}
use Rattle.bep_tables.specs.declared.cut.CutParts.{CutParts}
use Rattle.bep_tables.specs.Cut.{IsCut, ArePulls, devices_of, shares_of, tables_of}
use Rattle.bep_tables.specs.Laws.{CutSays, Carries, HasRecord}
use Rattle.bep_audit.specs.inner.Known.{HasName, Brings, IsBroughtBy, IsOver, IsOnItsWay, IsKnownFrom}
use Rattle.bep_audit.proofs.MapFacts.{there_is}
use Rattle.bep_audit.proofs.WinnerSaid.{are_shares, few_rise}

module _ (said : CutSays) (cut : CutParts) (is_cut : IsCut cut) where
  -- a device that shares the folder has a share of it
  pub share_of_device : (folder : Folder) (device : Device) → Shares (tables_of cut) device folder → (share : Share) × Contains (shares_of folder cut.folders) share × (share.device ≡ device)
  share_of_device folder device shares = let h = (said.sharing cut folder device shares.0).0 shares.1 in (h.0, h.1, h.2)

  pub device_of_share : (folder : Folder) (share : Share) → Contains (shares_of folder cut.folders) share → Shares (tables_of cut) share.device folder
  device_of_share folder share member = (share.kind, (said.sharing cut folder share.device share.kind).1 (share, member, refl, refl))

  -- the devices that share a folder rise
  pub devices_rise : (folder : Folder) (shares : List Share) → shares ≡ shares_of folder cut.folders → IsStrictlyIncreasing (devices_of shares)
  devices_rise folder shares is = (few_rise said.found said.has_folder cut is_cut folder shares is).1

  -- what a device pulls isn't invalid
  pull_is_valid : (folder : Folder) (name : FileName) (entry : Entry) (share : Share) → Contains (shares_of folder cut.folders) share → get share.pulls name ≡ Some entry → entry.invalid ≡ false
  pull_is_valid folder name entry share member is =
      let pulls = All-contains (λ (one : Share). ArePulls one.pulls) (shares_of folder cut.folders) share (are_shares said.found said.has_folder cut is_cut folder).pulls member in
      (pulls.named name entry is).1

  -- what is on its way over a link is on its way to one of its ends, which shares the folder
  foreign_over : (folder : Folder) (name : FileName) (link : LinkState) → Contains cut.links link → IsOver folder name link → IsKnown (tables_of cut) folder name
  foreign_over folder name link member over =
      ⊎_elim
      (λ to_a. arrives link.a link.to_a (λ flight here. inl (refl, here)) to_a)
      (λ to_b. arrives link.b link.to_b (λ flight here. inr (refl, here)) to_b)
      over
    where
      arrives : (device : Device) (flights : List Flight) → ((flight : Flight) → Contains flights flight → Carries link device flight) → IsBroughtBy folder name flights → IsKnown (tables_of cut) folder name
      arrives device flights carried brought =
          let flight = brought.0 in
          let carries = carried flight brought.1 in
          let same = brought.2.0 in
          let entry = brought.2.1.0 in
          let flying = (said.flying cut device folder name entry is_cut).1 (link, flight, member, carries, (same, brought.2.1.1, brought.2.1.2.0)) in
          let shares = subst (Shares (tables_of cut) device) same (said.receiver cut link device flight is_cut member carries) in
          (device, shares, inr (inr (entry, record { known_by = inr (inl flying); valid = brought.2.1.2.1 })))

  module _ (folder : Folder) (name : FileName) where
    -- what is on its way to a device is on its way
    on_its_way : (device : Device) (entry : Entry) → IsFlying (tables_of cut) device folder name entry → entry.invalid ≡ false → IsOnItsWay folder cut.links name
    on_its_way device entry flying valid =
        let over = (said.flying cut device folder name entry is_cut).0 flying in
        let brings : (flight : Flight) → HasRecord flight folder name entry → Brings folder name flight = λ flight has. (has.0, (entry, has.1, (has.2, valid))) in (
          over.0,
          over.2,
          ⊎_elim
              (λ to_a. inl (over.1, to_a.1, brings over.1 over.4))
              (λ to_b. inr (over.1, to_b.1, brings over.1 over.4))
              over.3,
        )

    module _ (share : Share) (member : Contains (shares_of folder cut.folders) share) where
      known_from_foreign : (entry : Entry) → IsForeign (tables_of cut) share.device folder name entry → IsKnownFrom folder (shares_of folder cut.folders) cut.links name
      known_from_foreign entry foreign =
          ⊎_elim
          (λ viewed.
          let view = (said.viewed cut folder name entry share is_cut member).0 viewed in
          inl (share, member, inr (inr (inr (view.0, view.1, (entry, view.2, foreign.valid))))))
          (⊎_elim
          (λ flying. inr (on_its_way share.device entry flying foreign.valid))
          (λ target.
          let pull = sym (said.target cut folder name share is_cut member) ∙ target in
          inl (share, member, inr (inr (inl (ap is_some pull))))))
          foreign.known_by

      known_from_trace : HasTrace (tables_of cut) share.device folder name → IsKnownFrom folder (shares_of folder cut.folders) cut.links name
      known_from_trace trace =
          ⊎_elim
          (λ node. inl (share, member, inr (inl (subst (λ (o : Option NodeParts). IsSome o) (said.node cut folder name share is_cut member) node))))
          (⊎_elim
          (λ own. inl (share, member, inl (subst (λ (o : Option Entry). IsSome o) (said.own cut folder name share is_cut member) own)))
          (λ foreign. known_from_foreign foreign.0 foreign.1))
          trace

      trace_of_name : HasName share name → HasTrace (tables_of cut) share.device folder name
      trace_of_name has =
          ⊎_elim
          (λ own. inr (inl (subst (λ (o : Option Entry). IsSome o) (sym (said.own cut folder name share is_cut member)) own)))
          (⊎_elim
          (λ node. inl (subst (λ (o : Option NodeParts). IsSome o) (sym (said.node cut folder name share is_cut member)) node))
          (⊎_elim
          (λ pulled.
          let pull = there_is (get share.pulls name) pulled in
          inr (inr (
            pull.0,
            record {
              known_by = inr (inr (said.target cut folder name share is_cut member ∙ pull.1));
              valid = pull_is_valid folder name pull.0 share member pull.1;
            },
          )))
          (λ viewed.
          let entry = viewed.2.0 in
          inr (inr (
            entry,
            record {
              known_by = inl ((said.viewed cut folder name entry share is_cut member).1 (viewed.0, viewed.1, viewed.2.1));
              valid = viewed.2.2;
            },
          )))))
          has

    -- a name is known exactly where a sharing device has it or it is on its way
    pub known_exactly : IsKnown (tables_of cut) folder name ↔ IsKnownFrom folder (shares_of folder cut.folders) cut.links name
    known_exactly = (
      λ known.
          let share = share_of_device folder known.0 known.1 in
          known_from_trace share.0 share.1 (subst (λ (device : Device). HasTrace (tables_of cut) device folder name) (sym share.2) known.2),
      λ from. ⊎_elim
          (λ held. (held.0.device, device_of_share folder held.0 held.1, trace_of_name held.0 held.1 held.2))
          (λ way. foreign_over folder name way.0 way.1 way.2)
          from,
    )
