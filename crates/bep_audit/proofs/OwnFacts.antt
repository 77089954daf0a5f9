-- The own records and the nodes among the entries of a name are those that the devices have of it.
use Rattle.std.proofs.Common.{◌≡◌, List, Contains, Some, refl, ap, ◌∙◌}
use Rattle.std.specs.FinMap.{get}
use Rattle.bep_record.specs.declared.entry.Entry.{Entry}
use Rattle.bep_record.specs.declared.node.NodeParts.{NodeParts}
use Rattle.bep_model.specs.Tables.{Folder, FileName}
use Rattle.bep_tables.specs.declared.cut.CutParts.{CutParts}
use Rattle.bep_tables.specs.declared.share.Share.{Share}
use Rattle.bep_tables.specs.declared.table.entry.Source.TheVariants.{Own}
use Rattle.bep_tables.specs.Cut.{IsCut, shares_of, tables_of}
use Rattle.bep_tables.specs.Laws.{NodeIsSaid, OwnIsSaid}
use Rattle.bep_tables.specs.Listed.{Holding, Record, Node, Listed}
use Rattle.bep_tables.specs.Said.{EntriesAreHeld}
use Rattle.bep_audit.specs.Candidates.{own_held, own_among, owned_by, owned_in}
use Rattle.bep_audit.specs.Group.{IsGroupOf}
use Rattle.bep_audit.specs.inner.Faultless.{node_held, node_among}
use Rattle.bep_audit.proofs.CandidateFacts.{owned_alike}
use Rattle.bep_audit.proofs.PickedFacts.{picked_said}

own_is_held : (holding : Holding) (entry : Entry) → own_held holding ≡ Some entry → holding ≡ Record Own entry
own_is_held (Record Own held) entry e = let same : held ≡ entry = cc in ap (Record Own) same
own_is_held (Record source held) entry e = absurd (cc)
own_is_held (Node node) entry e = absurd (cc)

node_is_held : (holding : Holding) (node : NodeParts) → node_held holding ≡ Some node → holding ≡ Node node
node_is_held (Record source entry) node e = absurd (cc)
node_is_held (Node held) node e = let same : held ≡ node = cc in ap Node same

module _ (held : EntriesAreHeld) (cut : CutParts) (is_cut : IsCut cut) (key : Folder × FileName) (group : List Listed) (is_group : IsGroupOf cut key group) where
  pub own_said : OwnIsSaid → (share : Share) → Contains (shares_of key.0 cut.folders) share → own_among share.device group ≡ get share.own key.1
  own_said said share member =
      picked_said own_held (Record Own) (λ entry. refl) own_is_held held cut is_cut key group is_group (λ device. (tables_of cut).own device key.0 key.1) (λ device entry is. is) (λ device entry is. is) share.device
      ∙ said cut key.0 key.1 share is_cut member

  pub node_said : NodeIsSaid → (share : Share) → Contains (shares_of key.0 cut.folders) share → node_among share.device group ≡ get share.store key.1
  node_said said share member =
      picked_said node_held Node (λ node. refl) node_is_held held cut is_cut key group is_group (λ device. (tables_of cut).node device key.0 key.1) (λ device node is. is) (λ device node is. is) share.device
      ∙ said cut key.0 key.1 share is_cut member

  -- so the own records are the candidates
  pub group_owns : OwnIsSaid → owned_by (λ share. own_among share.device group) (shares_of key.0 cut.folders) ≡ owned_in key.1 (shares_of key.0 cut.folders)
  group_owns said = owned_alike (λ share. own_among share.device group) (λ share. get share.own key.1) (shares_of key.0 cut.folders) (own_said said)
