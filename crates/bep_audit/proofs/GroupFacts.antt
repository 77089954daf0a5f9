-- What the entries of one name say is what the tables say of it.
use Rattle.std.proofs.Common.{◌≡◌, ◌↔◌, Bool, true, false, List, [], ◌∷◌, map, length, Contains, Option, IsTrue, IsSome, refl, sym, subst, inl, inr, ⊎_elim, arith}
use Rattle.std.specs.Prelude.{◌==◌, not}
use Rattle.std.proofs.lemmas.Bool.{eqb-true}
use Rattle.std.specs.FinMap.{get}
use Rattle.bep_facts.specs.Members.{Contains-image, Contains-from_image, Contains-first, not_in_none}
use Rattle.bep_record.specs.declared.entry.Entry.{Entry}
use Rattle.bep_record.specs.declared.node.NodeParts.{NodeParts}
use Rattle.bep_record.specs.Content.{content_of}
use Rattle.bep_model.specs.declared.row.Row.{Row}
use Rattle.bep_model.specs.Tables.{Device, Folder, FileName, Shares}
use Rattle.bep_model.specs.Foreign.{HasTrace, IsForeign, IsHarmless, IsKnown}
use Rattle.bep_model.specs.Settled.{key_of}
use Rattle.bep_tables.specs.declared.cut.CutParts.{CutParts}
use Rattle.bep_tables.specs.declared.share.Share.{Share}
use Rattle.bep_tables.specs.declared.table.entry.TableEntry.{TableEntry}
use Rattle.bep_tables.specs.declared.table.entry.Source.{Source}
use Rattle.bep_tables.specs.declared.table.entry.Source.TheVariants.{Own, View, Flight, Pull}
use Rattle.bep_tables.specs.Cut.{IsCut, shares_of, tables_of}
use Rattle.bep_tables.specs.Listed.{Holding, Record, Node, Listed, listed}
use Rattle.bep_tables.specs.Said.{Holds, EntriesAreHeld, HoldersShare}
use Rattle.bep_audit.specs.Group.{IsGroupOf, HasEntry, GroupPasses}
use Rattle.bep_audit.proofs.ListFacts.{EachSuch}
use Rattle.bep_audit.proofs.MapFacts.{there_is}
use Rattle.bep_tables.specs.Laws.{CutSays}

-- ---- lent entries
module _ (P : Listed → Type 0) (r : Bool) (group : List TableEntry) where
  pub each_listed : IsTrue r ↔ EachSuch (λ (entry : TableEntry). P (listed entry)) group → IsTrue r ↔ EachSuch P (map listed group)
  each_listed exactly = (
    λ is one member. let found = Contains-from_image listed group one member in subst P found.2 (exactly.0 is found.0 found.1),
    λ each. exactly.1 (λ entry member. each (listed entry) (Contains-image listed group entry member)),
  )

-- there is one, or none
pub has_entry : (none : Bool) (group : List TableEntry) → none ≡ (length group == 0) → IsTrue (not none) ↔ HasEntry (map listed group)
has_entry true [] is = (λ e. absurd (cc), λ some. absurd (not_in_none some.0 some.1))
has_entry false [] is = absurd (cc)
has_entry true (entry ∷ more) is = let none = eqb-true (length (entry ∷ more)) 0 (sym is) in absurd (omega (arith, none))
has_entry false (entry ∷ more) is = (λ _. (listed entry, Contains-first (listed entry) (map listed more)), λ _. refl)

-- ---- the entries of one name

module _ (held : EntriesAreHeld) (cut : CutParts) (is_cut : IsCut cut) (key : Folder × FileName) (group : List Listed) (is_group : IsGroupOf cut key group) where
  abbrev At : Device → Holding → Listed
  At device holding = record { folder = key.0; name = key.1; device = device; holding = holding }

  -- what a device holds of the name is among them
  pub in_group : (device : Device) (holding : Holding) → Holds (tables_of cut) device key.0 key.1 holding → Contains group (At device holding)
  in_group device holding has = (is_group (At device holding)).1 ((held cut (At device holding) is_cut).1 has, refl)

  -- and what is among them is held
  pub of_group : (one : Listed) → Contains group one → Holds (tables_of cut) one.device key.0 key.1 one.holding
  of_group one member =
      let there = (is_group one).0 member in
      subst (λ (k : Folder × FileName). Holds (tables_of cut) one.device k.0 k.1 one.holding) there.1 ((held cut one is_cut).0 there.0)

  trace_of : (device : Device) (holding : Holding) → Holds (tables_of cut) device key.0 key.1 holding → HasTrace (tables_of cut) device key.0 key.1
  trace_of device (Record Own entry) has = inr (inl (subst (λ (o : Option Entry). IsSome o) (sym has) refl))
  trace_of device (Record View entry) has = inr (inr (entry, record { known_by = inl has.0; valid = has.1 }))
  trace_of device (Record Flight entry) has = inr (inr (entry, record { known_by = inr (inl has.0); valid = has.1 }))
  trace_of device (Record Pull entry) has = inr (inr (entry, record { known_by = inr (inr has.0); valid = has.1 }))
  trace_of device (Node node) has = inl (subst (λ (o : Option NodeParts). IsSome o) (sym has) refl)

  entry_of : (device : Device) (holding : Holding) → Holds (tables_of cut) device key.0 key.1 holding → HasEntry group
  entry_of device holding has = (At device holding, in_group device holding has)

  entry_of_foreign : (device : Device) (entry : Entry) → IsForeign (tables_of cut) device key.0 key.1 entry → HasEntry group
  entry_of_foreign device entry foreign =
      ⊎_elim
      (λ viewed. entry_of device (Record View entry) (viewed, foreign.valid))
      (⊎_elim
      (λ flying. entry_of device (Record Flight entry) (flying, foreign.valid))
      (λ target. entry_of device (Record Pull entry) (target, foreign.valid)))
      foreign.known_by

  entry_of_trace : (device : Device) → HasTrace (tables_of cut) device key.0 key.1 → HasEntry group
  entry_of_trace device (inl node) = let is = there_is ((tables_of cut).node device key.0 key.1) node in entry_of device (Node is.0) is.1
  entry_of_trace device (inr (inl own)) = let is = there_is ((tables_of cut).own device key.0 key.1) own in entry_of device (Record Own is.0) is.1
  entry_of_trace device (inr (inr foreign)) = entry_of_foreign device foreign.0 foreign.1

  -- the name is known exactly where there is one
  pub known_by_group : HoldersShare → HasEntry group ↔ IsKnown (tables_of cut) key.0 key.1
  known_by_group share = (
    λ some.
        let there = (is_group some.0).0 some.1 in (
          some.0.device,
          subst (λ (k : Folder × FileName). Shares (tables_of cut) some.0.device k.0) there.1 (share cut some.0 is_cut there.0),
          trace_of some.0.device some.0.holding (of_group some.0 some.1),
        ),
    λ known. entry_of_trace known.0 known.2,
  )

-- ---- a row's name
module _ (said : CutSays) (cut : CutParts) (is_cut : IsCut cut) (row : Row) (share : Share) (member : Contains (shares_of row.folder cut.folders) share) (held : EntriesAreHeld) (group : List Listed) (is_group : IsGroupOf cut (key_of row) group) (source : Source) where
  -- what the device's entries from somewhere pass is what its records from there pass
  pub elsewhere_asked : GroupPasses source share.device row (get share.own row.entry.name) group ↔ ((entry : Entry) → Holds (tables_of cut) share.device row.folder row.entry.name (Record source entry) → IsHarmless ((tables_of cut).own share.device row.folder row.entry.name) (content_of row.entry) entry)
  elsewhere_asked =
      let own = said.own cut row.folder row.entry.name share is_cut member in (
        λ pass entry has.
            subst (λ (o : Option Entry). IsHarmless o (content_of row.entry) entry) (sym own)
            (pass (record { folder = row.folder; name = row.entry.name; device = share.device; holding = Record source entry })
            (in_group held cut is_cut (key_of row) group is_group share.device (Record source entry) has) entry refl refl),
        λ asked one there entry same is.
            subst (λ (o : Option Entry). IsHarmless o (content_of row.entry) entry) own
            (asked entry
            (subst (λ (h : Holding). Holds (tables_of cut) share.device row.folder row.entry.name h) is
            (subst (λ (d : Device). Holds (tables_of cut) d row.folder row.entry.name one.holding) same
            (of_group held cut is_cut (key_of row) group is_group one there)))),
      )
