-- What holds of the records and nodes of a cut, besides what its tables say (this project's profile).
use Rattle.std.specs.FinMap.{entries, values}
use Rattle.std.specs.List.{AllByRecursion}
use Rattle.bep_record.specs.Entry.{IsWellFormed}
use Rattle.bep_record.specs.Node.{IsNode}
use Rattle.bep_record.specs.declared.entry.Entry.{Entry}
use Rattle.bep_record.specs.declared.node.NodeParts.{NodeParts}
use Rattle.bep_map.specs.NameMap.{ByName}
use Rattle.bep_model.specs.declared.flight.Flight.{Flight}
use Rattle.bep_tables.specs.declared.share.Share.{Share}
use Rattle.bep_tables.specs.declared.share.PeerView.{PeerView}
use Rattle.bep_tables.specs.declared.share.SharedFolder.{SharedFolder}
use Rattle.bep_tables.specs.declared.link.LinkState.{LinkState}

-- each record of a table is one, and each node
abbrev pub AreRecords : ByName Entry → Type 0
AreRecords records = AllByRecursion IsWellFormed (values records)

abbrev pub AreNodes : ByName NodeParts → Type 0
AreNodes nodes = AllByRecursion (λ held. IsNode held.1) (entries nodes)

-- those that are known of another's index are
abbrev pub IsViewSound : PeerView → Type 0
IsViewSound view = AreRecords view.records

-- those that a device has of a folder are
pub record IsShareSound (share : Share) : Type 0 where
  pub own : AreRecords share.own
  pub store : AreNodes share.store
  pub views : AllByRecursion IsViewSound share.views
  pub pulls : AreRecords share.pulls

-- those of a folder are
abbrev pub IsFolderSound : SharedFolder → Type 0
IsFolderSound shared = AllByRecursion IsShareSound shared.shares

-- those that a message carries are
abbrev pub IsFlightSound : Flight → Type 0
IsFlightSound flight = AllByRecursion IsWellFormed flight.records

-- those on their way over a link are
pub record IsLinkSound (link : LinkState) : Type 0 where
  pub to_a : AllByRecursion IsFlightSound link.to_a
  pub to_b : AllByRecursion IsFlightSound link.to_b
