-- What a reason asks of a device by the entries of a name is what it asks by the tables.
use Rattle.std.proofs.Common.{◌↔◌, Contains, List, Option, subst, inl, inr, ⊎_elim}
use Rattle.std.specs.FinMap.{get}
use Rattle.bep_record.specs.declared.entry.Entry.{Entry}
use Rattle.bep_record.specs.declared.node.NodeParts.{NodeParts}
use Rattle.bep_model.specs.Tables.{Folder, FileName}
use Rattle.bep_tables.specs.declared.cut.CutParts.{CutParts}
use Rattle.bep_tables.specs.declared.share.Share.{Share}
use Rattle.bep_tables.specs.Cut.{IsCut, shares_of, tables_of}
use Rattle.bep_tables.specs.Laws.{CutSays}
use Rattle.bep_tables.specs.Listed.{Listed}
use Rattle.bep_tables.specs.Said.{EntriesAreHeld, HoldersShare}
use Rattle.bep_audit.specs.Group.{IsGroupOf}
use Rattle.bep_converge.specs.declared.converge_reason.ConvergeReason.{ConvergeReason}
use Rattle.bep_converge.specs.declared.converge_reason.ConvergeReason.TheVariants.{NothingPrevails, Concurrent, ContentDiffers, LocalOnly, StoreUnclean, StoreDiffers, SendOnly, WouldCopy}
use Rattle.bep_converge.specs.ConvergeReasons.{AsksThere}
use Rattle.bep_converge_check.specs.inner.Says.{AsksAmong, AsksShareAmong}
use Rattle.bep_converge_check.proofs.NameSays.{anywhere, from_anywhere, top_is, top_among, takes_by_kind}

module _ (held : EntriesAreHeld) (shared : HoldersShare) (said : CutSays) (cut : CutParts) (is_cut : IsCut cut) (key : Folder × FileName) (group : List Listed) (is_group : IsGroupOf cut key group)
    (share : Share) (member : Contains (shares_of key.0 cut.folders) share) where
  abbrev Recorded : Option Entry
  Recorded = (tables_of cut).own share.device key.0 key.1

  abbrev Stored : Option NodeParts
  Stored = (tables_of cut).node share.device key.0 key.1

  among_by_tables : (reason : ConvergeReason) → AsksAmong group reason share.device share.kind Recorded Stored ↔ AsksThere (tables_of cut) reason key.0 key.1 share.device
  among_by_tables NothingPrevails = (λ h. tt, λ h. tt)
  among_by_tables Concurrent = (λ h. tt, λ h. tt)
  among_by_tables ContentDiffers = (λ h. tt, λ h. tt)
  among_by_tables LocalOnly = (λ h. h, λ h. h)
  among_by_tables StoreUnclean = (λ h. h, λ h. h)
  among_by_tables StoreDiffers = (λ h. h, λ h. h)
  among_by_tables SendOnly =
      let takes = takes_by_kind said cut is_cut key.0 share member in (
        λ asks top is. ⊎_elim (λ at. inl at) (λ other. inr (takes.1 other)) (asks top (top_among held shared cut is_cut key group is_group top is)),
        λ asks top is. ⊎_elim (λ at. inl at) (λ other. inr (takes.0 other)) (asks top (top_is held shared cut is_cut key group is_group top is)),
      )
  among_by_tables WouldCopy = (
    λ all entry any. all entry (from_anywhere held shared cut is_cut key group is_group entry any),
    λ all entry has. all entry (anywhere held shared cut is_cut key group is_group entry has),
  )

  pub among_asked : (reason : ConvergeReason) → AsksShareAmong group reason key.1 share ↔ AsksThere (tables_of cut) reason key.0 key.1 share.device
  among_asked reason =
      subst (λ (own : Option Entry). AsksAmong group reason share.device share.kind own (get share.store key.1) ↔ AsksThere (tables_of cut) reason key.0 key.1 share.device) (said.own cut key.0 key.1 share is_cut member)
      (subst (λ (node : Option NodeParts). AsksAmong group reason share.device share.kind Recorded node ↔ AsksThere (tables_of cut) reason key.0 key.1 share.device) (said.node cut key.0 key.1 share is_cut member)
      (among_by_tables reason))
