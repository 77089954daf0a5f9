-- Which records aren't well formed, and which nodes don't fit their kind (this project's profile).
use Rattle.std.specs.Prelude.{ℕ, nat_eq, nat_le, ◌==◌, ◌&&◌, ◌||◌, not, Bool, true, false, List, [], ◌∷◌, length, Option, Some, None, map, if◌then◌else◌}
use Rattle.std.specs.Cmp.Lexicographic.{pointwise}
use Rattle.bep_record.specs.Block.{block_size_of, cuts_of}
use Rattle.bep_record.specs.declared.entry.Entry.{Entry}
use Rattle.bep_record.specs.declared.kind.Kind.{Kind}
use Rattle.bep_record.specs.declared.kind.Kind.TheVariants.{File, Directory, Symlink}
use Rattle.bep_record.specs.declared.limits.TheConstants.{HASH_OF_NOTHING, MAX_FILE_SIZE, MAX_NANOSECONDS}
use Rattle.bep_record.specs.declared.node.NodeParts.{NodeParts}
use Rattle.bep_json.specs.declared.nodes.NamedParts.{NamedParts}
use Rattle.bep_document.specs.declared.fault.DocFault.{DocFault}
use Rattle.bep_document.specs.declared.fault.Fault.TheVariants.{RecordBad}
use Rattle.bep_document.specs.declared.parts.ShareParts.{ShareParts}
use Rattle.bep_document.specs.declared.parts.ViewParts.{ViewParts}
use Rattle.bep_document.specs.declared.parts.FolderParts.{FolderParts}
use Rattle.bep_document.specs.declared.parts.FlightParts.{FlightParts}
use Rattle.bep_document.specs.declared.parts.LinkParts.{LinkParts}
use Rattle.bep_document.specs.declared.parts.RowParts.{RowParts}
use Rattle.bep_document.specs.declared.parts.CheckParts.{CheckParts}
use Rattle.bep_document.specs.Fault.{at_name}
use Rattle.bep_document.specs.faults.Judge.{◌else_at◌, first_in}
use Rattle.bep_document.specs.faults.Walks.{at_shares, on_link}

-- there is nothing in the list
abbrev pub is_empty : {A : Type 0} → List A → Bool
is_empty items = length items == 0

-- equal pairs of numbers
abbrev pub pair_eq : ℕ × ℕ → ℕ × ℕ → Bool
pair_eq p q = (p.0 == q.0) && (p.1 == q.1)

-- nothing is said of bytes, as a test
abbrev pub has_no_blocks : Entry → Bool
has_no_blocks entry = (entry.size == 0) && ((entry.block_size == 0) && is_empty entry.blocks)

-- the blocks are those of a file of this size; an empty file has one empty block; as a test
abbrev pub has_blocks : Entry → Bool
has_blocks entry =
    nat_le entry.size MAX_FILE_SIZE
    && ((entry.block_size == block_size_of entry.size)
    && (pointwise pair_eq (map (λ b. (b.offset, b.size)) entry.blocks) (cuts_of (block_size_of entry.size) entry.size)
    && (not (entry.size == 0) || pointwise (pointwise nat_eq) (map (λ b. b.hash) entry.blocks) (HASH_OF_NOTHING ∷ []))))

-- what a record has beside its name, times and version: by whether it is deleted, and by its kind, as a test
abbrev pub has_body : Bool → Kind → Entry → Bool
has_body true kind entry = has_no_blocks entry && is_empty entry.target
has_body false File entry = has_blocks entry && is_empty entry.target
has_body false Directory entry = has_no_blocks entry && is_empty entry.target
has_body false Symlink entry = has_no_blocks entry && not (is_empty entry.target)

-- what fields are a record, as a test
unfoldable pub is_well_formed : Entry → Bool
is_well_formed entry =
    nat_le entry.modified_ns MAX_NANOSECONDS && (entry.no_permissions && has_body entry.deleted entry.kind entry)

-- only a file has bytes, and only a symlink has a target, as a test
abbrev pub fits_kind : Kind → NodeParts → Bool
fits_kind File node = is_empty node.target
fits_kind Directory node = is_empty node.bytes && is_empty node.target
fits_kind Symlink node = is_empty node.bytes && not (is_empty node.target)

-- what parts are a node, as a test
unfoldable pub is_node : NodeParts → Bool
is_node node =
    nat_le (length node.bytes) MAX_FILE_SIZE && (nat_le node.modified_ns MAX_NANOSECONDS && fits_kind node.kind node)

-- the record isn't well formed
abbrev pub bad_entry : List ℕ → ℕ → List Entry → Entry → Option DocFault
bad_entry folder device earlier entry =
    if is_well_formed entry then None else Some (at_name RecordBad folder device entry.name)

-- the record isn't well formed, or is invalid, so that nothing can pull it
abbrev pub bad_pull : List ℕ → ℕ → List Entry → Entry → Option DocFault
bad_pull folder device earlier entry =
    if is_well_formed entry && not entry.invalid then None else Some (at_name RecordBad folder device entry.name)

-- the node doesn't fit its kind
abbrev pub bad_node : List ℕ → ℕ → List NamedParts → NamedParts → Option DocFault
bad_node folder device earlier node =
    if is_node node.parts then None else Some (at_name RecordBad folder device node.name)

-- a record in a view isn't well formed
abbrev pub bad_in_view : List ℕ → ℕ → List ViewParts → ViewParts → Option DocFault
bad_in_view folder device earlier view = first_in (bad_entry folder device) [] view.records

-- what is bad at a device: a record, a node of its store, a record in a view, a pull
unfoldable pub bad_at_share : List ℕ → List ShareParts → ShareParts → Option DocFault
bad_at_share folder earlier share =
    first_in (bad_entry folder share.device) [] share.own
    else_at (first_in (bad_node folder share.device) [] share.store
    else_at (first_in (bad_in_view folder share.device) [] share.views
    else_at first_in (bad_pull folder share.device) [] share.pulls))

-- what is bad at the devices of a folder
unfoldable pub bad_at_folder : List FolderParts → FolderParts → Option DocFault
bad_at_folder = at_shares (λ folder. bad_at_share folder.folder)

-- a record in what is on its way to the device isn't well formed
abbrev pub bad_in_flight : ℕ → List FlightParts → FlightParts → Option DocFault
bad_in_flight device earlier flight = first_in (bad_entry flight.folder device) [] flight.records

-- what is bad on a link
unfoldable pub bad_at_link : List LinkParts → LinkParts → Option DocFault
bad_at_link = on_link (λ _. bad_in_flight)

-- the row's record isn't well formed
unfoldable pub bad_row : List RowParts → RowParts → Option DocFault
bad_row earlier row = bad_entry row.folder row.device [] row.entry

-- what is bad in the folders, or else on the links, or else in the certificate
unfoldable pub first_bad : CheckParts → Option DocFault
first_bad parts =
    first_in bad_at_folder [] parts.folders
    else_at (first_in bad_at_link [] parts.links
    else_at first_in bad_row [] parts.certificate)
