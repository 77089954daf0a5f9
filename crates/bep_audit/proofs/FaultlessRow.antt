-- Where a row's name is known, the row is its winner's, and each device meets all that is asked, no reason fails there.
use Rattle.std.proofs.Common.{◌≡◌, true, List, [], ◌∷◌, Contains, Option, Some, None, IfSome, refl, sym, subst, arith}
use Rattle.std.specs.Borrow.{Bor}
use Rattle.std.specs.FinMap.{get}
use Rattle.std.specs.Option.{option_copied}
use Rattle.bep_record.specs.declared.entry.Entry.{Entry}
use Rattle.bep_record.specs.declared.node.NodeParts.{NodeParts}
use Rattle.bep_record.specs.Content.{Content}
use Rattle.bep_model.specs.declared.row.Row.{Row}
use Rattle.bep_model.specs.declared.reason.Reason.{Reason}
use Rattle.bep_model.specs.declared.reason.Reason.TheVariants.{CertificateOrder, NameMissing, NameUnknown, NotWinner, RecordMissing, RecordDiffers, LocalOnly, StoreDiffers, StoreUnclean, ViewAhead, FlightAhead, PullAhead}
use Rattle.bep_model.specs.Tables.{Device}
use Rattle.bep_model.specs.Foreign.{IsKnown}
use Rattle.bep_model.specs.Settled.{content_of_node, key_of}
use Rattle.bep_model.specs.Winner.{IsWinner}
use Rattle.bep_tables.specs.declared.share.Share.{Share}
use Rattle.bep_tables.specs.declared.cut.CutParts.{CutParts}
use Rattle.bep_tables.specs.Cut.{IsCut, shares_of, tables_of}
use Rattle.bep_tables.specs.Listed.{Listed}
use Rattle.bep_tables.specs.Said.{EntriesAreHeld}
use Rattle.bep_audit.specs.Candidates.{own_among}
use Rattle.bep_audit.specs.inner.Faultless.{node_among, AsksAll, AsksAllHere, AsksAllElsewhere}
use Rattle.bep_audit.specs.Group.{IsGroupOf, AsksBeside, AsksElsewhere}
use Rattle.bep_audit.specs.Share.{AsksHere, ShareIsAsked}
use Rattle.bep_audit.specs.inner.Walk.{FindsHere, FindsLeast}
use Rattle.bep_audit.proofs.AskedAtRow.{IsOfDevices}
use Rattle.bep_tables.specs.Laws.{CutSays}
use Rattle.bep_audit.proofs.FailingDevice.{finds_by_group}
use Rattle.bep_audit.proofs.FailingRow.{finds_unknown, finds_loser}
use Rattle.bep_audit.proofs.OwnFacts.{own_said, node_said}
use Rattle.bep_audit.proofs.GroupRow.{finds_here, order_holds, missing_holds}

-- a node that is lent has the content that is held
pub holds_as_lent : (lent : Option (Bor NodeParts)) (stored : Option NodeParts) (content : Content) → option_copied lent ≡ stored → content_of_node stored ≡ content → IfSome lent (λ one. content_of_node (Some one.now) ≡ content)
holds_as_lent None stored content same holds = tt
holds_as_lent (Some one) stored content same holds = subst (λ found. content_of_node found ≡ content) (sym same) holds

each_here : (own : Option Entry) (stored : Option NodeParts) (winner : Entry) → AsksAllHere own stored winner → (reason : Reason) → AsksHere reason own stored winner
unfolding AsksAllHere
each_here own stored winner all RecordMissing = all.0
each_here own stored winner all RecordDiffers = all.1
each_here own stored winner all LocalOnly = all.2
each_here own stored winner all StoreDiffers = all.3
each_here own stored winner all StoreUnclean = all.4
each_here own stored winner all _ = tt

each_elsewhere : (row : Row) (group : List Listed) (device : Device) (own : Option Entry) → AsksAllElsewhere row group device own → (reason : Reason) → AsksElsewhere reason row group device own
unfolding AsksAllElsewhere
each_elsewhere row group device own all ViewAhead = all.0
each_elsewhere row group device own all FlightAhead = all.1
each_elsewhere row group device own all PullAhead = all.2
each_elsewhere row group device own all _ = tt

module _ (said : CutSays) (asked_here : ShareIsAsked) (held : EntriesAreHeld) (cut : CutParts) (is_cut : IsCut cut) (row : Row) (group : List Listed) (is_group : IsGroupOf cut (key_of row) group) (shares : List Share) (are : shares ≡ shares_of row.folder cut.folders) (met : (share : Share) → Contains shares share → AsksAll row group share.device) where
  -- no reason on devices fails
  at_devices : (reason : Reason) → IsOfDevices reason → FindsHere (tables_of cut) row reason None
  unfolding AsksAll
  at_devices reason of_devices =
      finds_here (tables_of cut) row reason (omega (arith, of_devices)) None
      (finds_by_group said asked_here cut is_cut row held group is_group reason of_devices shares are None
      (λ device share member same.
      let all = met share member in
      let there = subst (λ (held : List Share). Contains held share) are member in
      let own = own_among share.device group in
      let node = node_among share.device group in
      let asked : AsksBeside reason row group share.device own node = (each_here own node row.entry all.0 reason, each_elsewhere row group share.device own all.1 reason) in
      subst (λ (stored : Option NodeParts). AsksBeside reason row group share.device (get share.own row.entry.name) stored) (node_said held cut is_cut (key_of row) group is_group said.node share there)
      (subst (λ (recorded : Option Entry). AsksBeside reason row group share.device recorded node) (own_said held cut is_cut (key_of row) group is_group said.own share there) asked)))

  -- nor any other
  at_row : IsKnown (tables_of cut) row.folder row.entry.name → IsWinner (tables_of cut) row.folder row.entry.name (row.device, row.entry) → (reason : Reason) → FindsHere (tables_of cut) row reason None
  at_row known wins CertificateOrder = order_holds (tables_of cut) row
  at_row known wins NameMissing = missing_holds (tables_of cut) row
  at_row known wins NameUnknown = finds_here (tables_of cut) row NameUnknown (omega arith) None (finds_unknown (tables_of cut) row true None (λ _. known, λ _. refl) refl)
  at_row known wins NotWinner = finds_here (tables_of cut) row NotWinner (omega arith) None (finds_loser (tables_of cut) row true None (λ _. wins, λ _. refl) refl)
  at_row known wins RecordMissing = at_devices RecordMissing (omega arith)
  at_row known wins RecordDiffers = at_devices RecordDiffers (omega arith)
  at_row known wins LocalOnly = at_devices LocalOnly (omega arith)
  at_row known wins StoreDiffers = at_devices StoreDiffers (omega arith)
  at_row known wins StoreUnclean = at_devices StoreUnclean (omega arith)
  at_row known wins ViewAhead = at_devices ViewAhead (omega arith)
  at_row known wins FlightAhead = at_devices FlightAhead (omega arith)
  at_row known wins PullAhead = at_devices PullAhead (omega arith)

  pub nothing_fails : IsKnown (tables_of cut) row.folder row.entry.name → IsWinner (tables_of cut) row.folder row.entry.name (row.device, row.entry) → FindsLeast (tables_of cut) (row ∷ []) (λ key. key ≡ key_of row) None
  nothing_fails known wins one = at_row known wins one.reason one.place
