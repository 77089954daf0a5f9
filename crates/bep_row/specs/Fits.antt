-- When a row fits a header, so that it makes a cut (this project's profile).
use Rattle.std.specs.Prelude.{◌≡◌, ℕ, ◌≤◌, false, Option, List, [], Some, Contains}
use Rattle.bep_record.specs.declared.entry.Entry.{Entry}
use Rattle.bep_index.specs.declared.limits.TheConstants.{MAX_SEQUENCE}
use Rattle.bep_tables.specs.declared.cut.CutParts.{CutParts}
use Rattle.bep_tables.specs.declared.link.LinkState.{LinkState}
use Rattle.bep_tables.specs.declared.share.PeerView.{PeerView}
use Rattle.bep_tables.specs.declared.share.Share.{Share}
use Rattle.bep_tables.specs.Cut.{IsCut, shares_of}
use Rattle.bep_row.specs.declared.row.DeviceCell.{DeviceCell}
use Rattle.bep_row.specs.declared.row.NameRow.{NameRow}
use Rattle.bep_row.specs.Row.{cell_of, cut_with, known_by, own_of, pull_of, record_at}

-- no message is on its way over the link
abbrev pub IsQuiet : LinkState → Type 0
IsQuiet link = (link.to_a ≡ []) × (link.to_b ≡ [])

-- nor over any of these
abbrev pub AreQuiet : List LinkState → Type 0
AreQuiet links = (link : LinkState) → Contains links link → IsQuiet link

-- the sequence is from 1 to the greatest
abbrev pub IsNumbered : ℕ → ℕ → Type 0
IsNumbered greatest sequence = (1 ≤ sequence) × (sequence ≤ greatest)

-- that of the record is, if there is one
abbrev pub IsNumberedTo : ℕ → Option Entry → Type 0
IsNumberedTo greatest found = (entry : Entry) → found ≡ Some entry → IsNumbered greatest entry.sequence

-- the record can be pulled
abbrev pub IsPull : Entry → Type 0
IsPull entry = (entry.invalid ≡ false) × (entry.sequence ≤ MAX_SEQUENCE)

-- it can, if there is one
abbrev pub IsPullable : Option Entry → Type 0
IsPullable found = (entry : Entry) → found ≡ Some entry → IsPull entry

-- what the cell says can stand in the view
abbrev pub IsViewFit : NameRow → Option DeviceCell → PeerView → Type 0
IsViewFit row cell view = IsNumberedTo view.max_sequence (record_at row.records (known_by cell view.of))

-- what it says can stand in each of these views
abbrev pub AreViewsFit : NameRow → Option DeviceCell → List PeerView → Type 0
AreViewsFit row cell views = (view : PeerView) → Contains views view → IsViewFit row cell view

-- what the cell says can stand at the device
pub record IsShareFit (row : NameRow) (cell : Option DeviceCell) (share : Share) : Type 0 where
  pub own : IsNumberedTo share.max_sequence (record_at row.records (own_of cell))
  pub views : AreViewsFit row cell share.views
  pub pull : IsPullable (record_at row.records (pull_of cell))

-- what the row says can stand at these devices
abbrev pub AreSharesFit : NameRow → List Share → Type 0
AreSharesFit row shares = (share : Share) → Contains shares share → IsShareFit row (cell_of row.devices share.device) share

-- each record has this name
abbrev pub AreNamed : List ℕ → List Entry → Type 0
AreNamed name entries = (entry : Entry) → Contains entries entry → entry.name ≡ name

-- the row fits the header
pub record Fits (header : CutParts) (row : NameRow) : Type 0 where
  pub quiet : AreQuiet header.links
  pub named : AreNamed row.name row.records
  pub shares : AreSharesFit row (shares_of row.folder header.folders)

-- the cut that has a row's name alone is a cut
abbrev pub RowsMakeCuts : Type 0
RowsMakeCuts = (header : CutParts) (row : NameRow) → IsCut header → Fits header row → IsCut (cut_with header row)
