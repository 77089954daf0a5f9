-- The names that are known in a folder (this project's profile).
use Rattle.std.specs.Prelude.{nat_eq, List, fold, map, if◌then◌else◌}
use Rattle.std.specs.List.{flat_map}
use Rattle.std.specs.Cmp.Lexicographic.{pointwise}
use Rattle.std.specs.FinMap.{empty, insert, keys, values}
use Rattle.bep_map.specs.NameMap.{ByName}
use Rattle.bep_record.specs.declared.entry.Entry.{Entry}
use Rattle.bep_model.specs.declared.flight.Flight.{Flight}
use Rattle.bep_model.specs.Tables.{Folder, FileName}
use Rattle.bep_tables.specs.declared.share.Share.{Share}
use Rattle.bep_tables.specs.declared.share.PeerView.{PeerView}
use Rattle.bep_tables.specs.declared.share.SharedFolder.{SharedFolder}
use Rattle.bep_tables.specs.declared.link.LinkState.{LinkState}
use Rattle.bep_tables.specs.declared.cut.CutParts.{CutParts}
use Rattle.bep_tables.specs.Cut.{shares_of}

-- a set of names
abbrev pub Names : Type 0
Names = ByName (Unit {0})

-- these names as well
abbrev pub with_names : Names → List FileName → Names
with_names = fold (λ names name. insert names name tt)

-- the record's name as well, unless the record is invalid
abbrev pub with_valid : Names → Entry → Names
with_valid names entry = if entry.invalid then names else insert names entry.name tt

-- the names of what a view has
abbrev pub with_view : Names → PeerView → Names
with_view names view = fold with_valid names (values view.records)

-- the names of a device's own records, its store, its views and its pulls as well
unfoldable pub with_share : Names → Share → Names
with_share names share =
    with_names (fold with_view (with_names (with_names names (keys share.own)) (keys share.store)) share.views) (keys share.pulls)

-- the names of a message's records as well, if it is of the folder
unfoldable pub with_flight : Folder → Names → Flight → Names
with_flight folder names flight =
    if pointwise nat_eq flight.folder folder then fold with_valid names flight.records else names

-- the names of what is on its way over a link as well
unfoldable pub with_link : Folder → Names → LinkState → Names
with_link folder names link = fold (with_flight folder) (fold (with_flight folder) names link.to_a) link.to_b

-- the names that the folder's devices recorded, hold, know of others or pull, and those on their way to them
unfoldable pub known_names : CutParts → Folder → Names
known_names cut folder = fold (with_link folder) (fold with_share empty (shares_of folder cut.folders)) cut.links

-- the known names of a folder of the cut, rising, and those of several of its folders
abbrev pub names_of : CutParts → SharedFolder → List (Folder × FileName)
names_of cut shared = map (λ name. (shared.folder, name)) (keys (known_names cut shared.folder))

abbrev pub all_names : CutParts → List SharedFolder → List (Folder × FileName)
all_names cut = flat_map (names_of cut)
