-- A cut that was made of another one by names, as a document for some names of a folder is (this project's profile).
use Rattle.std.specs.Prelude.{◌≡◌, Bool, map}
use Rattle.std.specs.List.{AllZip}
use Rattle.std.specs.FinMap.{get}
use Rattle.bep_map.specs.NameMap.{ByName}
use Rattle.bep_model.specs.Tables.{FileName}
use Rattle.bep_tables.specs.declared.share.PeerView.{PeerView}
use Rattle.bep_tables.specs.declared.share.Share.{Share}
use Rattle.bep_tables.specs.declared.share.SharedFolder.{SharedFolder}
use Rattle.bep_tables.specs.declared.link.LinkState.{LinkState}
use Rattle.bep_tables.specs.declared.cut.CutParts.{CutParts}
use Rattle.bep_parts.specs.Parts.{Keeps, flight_of, if_kept}

-- a map has what the whole one has at the kept names, and nothing at others
abbrev pub HasKept : {V : Type 0} → (FileName → Bool) → ByName V → ByName V → Type 0
HasKept kept whole part = (name : FileName) → get part name ≡ if_kept (kept name) (get whole name)

-- All but records, nodes, pulls and what messages carry is as in the whole.
pub record IsViewOf (kept : FileName → Bool) (whole part : PeerView) : Type 0 where
  pub of : part.of ≡ whole.of
  pub index_id : part.index_id ≡ whole.index_id
  pub max_sequence : part.max_sequence ≡ whole.max_sequence
  pub records : HasKept kept whole.records part.records

pub record IsShareOf (kept : FileName → Bool) (whole part : Share) : Type 0 where
  pub device : part.device ≡ whole.device
  pub kind : part.kind ≡ whole.kind
  pub index_id : part.index_id ≡ whole.index_id
  pub max_sequence : part.max_sequence ≡ whole.max_sequence
  pub own : HasKept kept whole.own part.own
  pub store : HasKept kept whole.store part.store
  pub views : AllZip (IsViewOf kept) whole.views part.views
  pub pulls : HasKept kept whole.pulls part.pulls

pub record IsFolderOf (keeps : Keeps) (whole part : SharedFolder) : Type 0 where
  pub folder : part.folder ≡ whole.folder
  pub shares : AllZip (IsShareOf (keeps whole.folder)) whole.shares part.shares

pub record IsLinkOf (keeps : Keeps) (whole part : LinkState) : Type 0 where
  pub a : part.a ≡ whole.a
  pub b : part.b ≡ whole.b
  pub up : part.up ≡ whole.up
  pub epoch : part.epoch ≡ whole.epoch
  pub to_a : part.to_a ≡ map (flight_of keeps) whole.to_a
  pub to_b : part.to_b ≡ map (flight_of keeps) whole.to_b

pub record IsCutOf (keeps : Keeps) (whole part : CutParts) : Type 0 where
  pub folders : AllZip (IsFolderOf keeps) whole.folders part.folders
  pub links : AllZip (IsLinkOf keeps) whole.links part.links
