-- What is found of the devices that share a row's folder.
use Rattle.std.proofs.Common.{◌≡◌, ◌↔◌, ◌<◌, List, [], ◌∷◌, Contains, Option, Some, None, option_map, refl, sym, subst, arith}
use Rattle.std.specs.Prelude.{⊤}
use Rattle.std.specs.Ordering.{nat_cmp}
use Rattle.std.specs.FinMap.{get}
use Rattle.bep_facts.specs.Members.{Contains-first, Contains-one}
use Rattle.bep_record.specs.declared.node.NodeParts.{NodeParts}
use Rattle.bep_record.specs.declared.entry.Entry.{Entry}
use Rattle.bep_model.specs.declared.row.Row.{Row}
use Rattle.bep_model.specs.declared.reason.Reason.{Reason}
use Rattle.bep_model.specs.declared.reason.Reason.TheVariants.{CertificateOrder, NameMissing, NameUnknown, NotWinner, RecordMissing, RecordDiffers, LocalOnly, StoreDiffers, StoreUnclean, ViewAhead, FlightAhead, PullAhead}
use Rattle.bep_model.specs.Tables.{Tables, Device, Folder, FileName, Shares}
use Rattle.bep_model.specs.Reasons.{device_rank, AsksAt, AsksName, AsksDevice, AsksShare}
use Rattle.bep_model.specs.Verdict.{number_of}
use Rattle.bep_tables.specs.declared.share.Share.{Share}
use Rattle.bep_tables.specs.declared.link.LinkState.{LinkState}
use Rattle.bep_tables.specs.declared.cut.CutParts.{CutParts}
use Rattle.bep_tables.specs.Cut.{IsCut, shares_of, tables_of}
use Rattle.bep_audit.specs.Share.{AsksHere, ShareIsAsked}
use Rattle.bep_audit.specs.inner.Held.{AsksOf, AsksAmong}
use Rattle.bep_audit.specs.inner.Search.{FindsFirst, FindsFailing}
use Rattle.bep_audit.specs.Shown.{part_of}
use Rattle.bep_audit.proofs.AskedAtRow.{IsOfDevices}
use Rattle.bep_tables.specs.Laws.{CutSays}
use Rattle.bep_audit.proofs.CutFacts.{share_of_device, device_of_share}
use Rattle.bep_audit.proofs.ForeignFacts.{views_asked, flights_asked, pulls_asked}
use Rattle.bep_tables.specs.declared.table.entry.Source.TheVariants.{View, Flight, Pull}
use Rattle.bep_tables.specs.Listed.{Listed}
use Rattle.bep_tables.specs.Said.{EntriesAreHeld}
use Rattle.bep_model.specs.Settled.{key_of}
use Rattle.bep_audit.specs.Group.{IsGroupOf, AsksGroup, AsksAmongGroup}
use Rattle.bep_audit.proofs.GroupFacts.{elsewhere_asked}
use Rattle.bep_audit.proofs.FailingRow.{less_by_order, finds_none, finds_part}

-- a reason that asks something of devices asks nothing of a name as a whole
no_name : (t : Tables) (rows : List Row) (reason : Reason) (folder : Folder) (name : FileName) → IsOfDevices reason → AsksName t rows reason folder name
no_name t rows CertificateOrder folder name of_devices = absurd (omega (arith, of_devices))
no_name t rows NameMissing folder name of_devices = absurd (omega (arith, of_devices))
no_name t rows NameUnknown folder name of_devices = absurd (omega (arith, of_devices))
no_name t rows NotWinner folder name of_devices = absurd (omega (arith, of_devices))
no_name t rows _ folder name of_devices = tt

module _ (said : CutSays) (asked_here : ShareIsAsked) (cut : CutParts) (is_cut : IsCut cut) (row : Row) where
  -- what is asked of the device that has this share, by its tables
  AsksTables : Reason → Share → Type 0
  AsksTables reason share = AsksShare (tables_of cut) reason row share.device

  IsShare : Share → Type 0
  IsShare share = Contains (shares_of row.folder cut.folders) share

  by_share : (reason : Reason) (share : Share) → IsShare share → number_of reason < number_of ViewAhead → AsksHere reason (get share.own row.entry.name) (get share.store row.entry.name) row.entry ↔ AsksTables reason share
  unfolding AsksTables IsShare
  by_share reason share member less =
      subst (λ (own : Option Entry). AsksHere reason own (get share.store row.entry.name) row.entry ↔ AsksShare (tables_of cut) reason row share.device) (said.own cut row.folder row.entry.name share is_cut member)
      (subst (λ (node : Option NodeParts). AsksHere reason ((tables_of cut).own share.device row.folder row.entry.name) node row.entry ↔ AsksShare (tables_of cut) reason row share.device) (said.node cut row.folder row.entry.name share is_cut member)
      (asked_here (tables_of cut) reason row share.device less))

  -- beside no foreign record
  alone : (reason : Reason) (share : Share) → IsShare share → number_of reason < number_of ViewAhead → (AsksHere reason (get share.own row.entry.name) (get share.store row.entry.name) row.entry × ⊤) ↔ AsksTables reason share
  alone reason share member less = (λ both. (by_share reason share member less).0 both.0, λ asked. ((by_share reason share member less).1 asked, tt))

  -- what is asked of the share is what is asked of the device
  asked_exactly : (reason : Reason) (share : Share) → IsShare share → AsksOf reason row cut.links share ↔ AsksTables reason share
  unfolding AsksTables IsShare
  asked_exactly ViewAhead share member = (λ both. (views_asked said cut is_cut row share member).0 both.1, λ asked. (tt, (views_asked said cut is_cut row share member).1 asked))
  asked_exactly FlightAhead share member = (λ both. (flights_asked said cut is_cut row share member).0 both.1, λ asked. (tt, (flights_asked said cut is_cut row share member).1 asked))
  asked_exactly PullAhead share member = (λ both. (pulls_asked said cut is_cut row share member).0 both.1, λ asked. (tt, (pulls_asked said cut is_cut row share member).1 asked))
  asked_exactly CertificateOrder share member = alone CertificateOrder share member (omega arith)
  asked_exactly NameMissing share member = alone NameMissing share member (omega arith)
  asked_exactly NameUnknown share member = alone NameUnknown share member (omega arith)
  asked_exactly NotWinner share member = alone NotWinner share member (omega arith)
  asked_exactly RecordMissing share member = alone RecordMissing share member (omega arith)
  asked_exactly RecordDiffers share member = alone RecordDiffers share member (omega arith)
  asked_exactly LocalOnly share member = alone LocalOnly share member (omega arith)
  asked_exactly StoreDiffers share member = alone StoreDiffers share member (omega arith)
  asked_exactly StoreUnclean share member = alone StoreUnclean share member (omega arith)

-- what is found among a folder's devices, of each of which is asked what the reason asks
module _ (said : CutSays) (cut : CutParts) (is_cut : IsCut cut) (row : Row) (reason : Reason) (of_devices : IsOfDevices reason) (Says : Share → Type 0) (exactly : (share : Share) → Contains (shares_of row.folder cut.folders) share → Says share ↔ AsksShare (tables_of cut) reason row share.device) where
  -- what is asked of the device among these
  abbrev Among : List Share → Device → Type 0
  Among shares device = (share : Share) → Contains shares share → share.device ≡ device → Says share

  -- a device is asked what its shares are
  part_exactly : (device : Device) → Among (shares_of row.folder cut.folders) device ↔ AsksDevice (tables_of cut) (row ∷ []) reason row.folder row.entry.name device
  part_exactly device = (
    λ met one member key shares.
        let share = share_of_device said cut is_cut row.folder device shares in
        let asked = (exactly share.0 share.1).0 (met share.0 share.1 share.2) in
        let of_device = subst (λ (d : Device). AsksShare (tables_of cut) reason row d) share.2 asked in
        subst (λ (r : Row). AsksShare (tables_of cut) reason r device) (Contains-one row one member) of_device,
    λ asked share member same.
        let shares = subst (λ (d : Device). Shares (tables_of cut) d row.folder) same (device_of_share said cut is_cut row.folder share member) in
        let of_device = asked row (Contains-first row []) refl shares in
        (exactly share member).1 (subst (λ (d : Device). AsksShare (tables_of cut) reason row d) (sym same) of_device),
  )

  found_exactly : (found : Option Device) → FindsFirst nat_cmp (Among (shares_of row.folder cut.folders)) found → FindsFailing (tables_of cut) (row ∷ []) reason (option_map (part_of row) found)
  found_exactly None none = finds_none (tables_of cut) reason row (omega (arith, of_devices)) each where
    each : (device : Option Device) → AsksAt (tables_of cut) (row ∷ []) reason row.folder row.entry.name device
    each None = no_name (tables_of cut) (row ∷ []) reason row.folder row.entry.name of_devices
    each (Some device) = (part_exactly device).0 (none device)
  found_exactly (Some device) first =
      finds_part (tables_of cut) reason row (omega (arith, of_devices)) (Some device) (λ asked. first.fails ((part_exactly device).1 asked)) before
    where
      before : (earlier : Option Device) → device_rank earlier < device_rank (Some device) → AsksAt (tables_of cut) (row ∷ []) reason row.folder row.entry.name earlier
      before None less = no_name (tables_of cut) (row ∷ []) reason row.folder row.entry.name of_devices
      before (Some earlier) less = (part_exactly earlier).0 (first.before earlier (less_by_order earlier device (omega (arith, less))))

  pub finds_by : (shares : List Share) → shares ≡ shares_of row.folder cut.folders → (found : Option Device) → FindsFirst nat_cmp (Among shares) found → FindsFailing (tables_of cut) (row ∷ []) reason (option_map (part_of row) found)
  finds_by shares is found finds = found_exactly found (subst (λ (all : List Share). FindsFirst nat_cmp (Among all) found) is finds)

module _ (said : CutSays) (asked_here : ShareIsAsked) (cut : CutParts) (is_cut : IsCut cut) (row : Row) where
  -- what is asked of a share is what is asked of its device
  pub share_asked : (reason : Reason) (share : Share) → Contains (shares_of row.folder cut.folders) share → AsksOf reason row cut.links share ↔ AsksShare (tables_of cut) reason row share.device
  unfolding AsksTables IsShare
  share_asked = asked_exactly said asked_here cut is_cut row

  -- what is found among the shares is what is found at the row
  pub finds_device : (reason : Reason) → IsOfDevices reason → (links : List LinkState) → links ≡ cut.links → (shares : List Share) → shares ≡ shares_of row.folder cut.folders → (found : Option Device) → FindsFirst nat_cmp (AsksAmong reason row links shares) found → FindsFailing (tables_of cut) (row ∷ []) reason (option_map (part_of row) found)
  unfolding AsksTables IsShare
  finds_device reason of_devices links over shares is found finds =
      finds_by said cut is_cut row reason of_devices (AsksOf reason row cut.links) (λ share member. asked_exactly said asked_here cut is_cut row reason share member) shares is found
      (subst (λ (all : List LinkState). FindsFirst nat_cmp (AsksAmong reason row all shares) found) over finds)

  module _ (held : EntriesAreHeld) (group : List Listed) (is_group : IsGroupOf cut (key_of row) group) where
    -- what is asked of the share beside its entries is what is asked of the device
    pub asked_by_group : (reason : Reason) (share : Share) → Contains (shares_of row.folder cut.folders) share → AsksGroup reason row group share ↔ AsksShare (tables_of cut) reason row share.device
    unfolding AsksTables IsShare
    asked_by_group ViewAhead share member =
        let asks = elsewhere_asked said cut is_cut row share member held group is_group View in
        (λ both entry known_by valid. asks.0 both.1 entry (known_by, valid), λ asked. (tt, asks.1 (λ entry has. asked entry has.0 has.1)))
    asked_by_group FlightAhead share member =
        let asks = elsewhere_asked said cut is_cut row share member held group is_group Flight in
        (λ both entry known_by valid. asks.0 both.1 entry (known_by, valid), λ asked. (tt, asks.1 (λ entry has. asked entry has.0 has.1)))
    asked_by_group PullAhead share member =
        let asks = elsewhere_asked said cut is_cut row share member held group is_group Pull in
        (λ both entry known_by valid. asks.0 both.1 entry (known_by, valid), λ asked. (tt, asks.1 (λ entry has. asked entry has.0 has.1)))
    asked_by_group CertificateOrder share member = alone said asked_here cut is_cut row CertificateOrder share member (omega arith)
    asked_by_group NameMissing share member = alone said asked_here cut is_cut row NameMissing share member (omega arith)
    asked_by_group NameUnknown share member = alone said asked_here cut is_cut row NameUnknown share member (omega arith)
    asked_by_group NotWinner share member = alone said asked_here cut is_cut row NotWinner share member (omega arith)
    asked_by_group RecordMissing share member = alone said asked_here cut is_cut row RecordMissing share member (omega arith)
    asked_by_group RecordDiffers share member = alone said asked_here cut is_cut row RecordDiffers share member (omega arith)
    asked_by_group LocalOnly share member = alone said asked_here cut is_cut row LocalOnly share member (omega arith)
    asked_by_group StoreDiffers share member = alone said asked_here cut is_cut row StoreDiffers share member (omega arith)
    asked_by_group StoreUnclean share member = alone said asked_here cut is_cut row StoreUnclean share member (omega arith)

    -- what is found among the devices by the name's entries is what is found at the row
    pub finds_by_group : (reason : Reason) → IsOfDevices reason → (shares : List Share) → shares ≡ shares_of row.folder cut.folders → (found : Option Device) → FindsFirst nat_cmp (AsksAmongGroup reason row group shares) found → FindsFailing (tables_of cut) (row ∷ []) reason (option_map (part_of row) found)
    finds_by_group reason of_devices = finds_by said cut is_cut row reason of_devices (AsksGroup reason row group) (asked_by_group reason)
