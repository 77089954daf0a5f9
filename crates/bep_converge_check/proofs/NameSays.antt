-- What the entries of a name say of its records is what the tables say.
use Rattle.std.proofs.Common.{◌≡◌, ◌≢◌, ◌⊎◌, ◌↔◌, false, Bool, true, cond, List, Contains, Option, Some, None, refl, sym, ap, subst, ◌∙◌, inl, inr, ⊎_elim, arith}
use Rattle.std.proofs.lemmas.Bool.{cases_Bool}
use Rattle.std.specs.FinMap.{get}
use Rattle.bep_record.specs.declared.entry.Entry.{Entry}
use Rattle.bep_record.specs.declared.node.NodeParts.{NodeParts}
use Rattle.bep_record.specs.declared.folder_kind.FolderKind.TheVariants as kinds
use Rattle.bep_record.specs.Content.{Deleted, content_of, content_of_kind}
use Rattle.bep_model.specs.Tables.{Tables, Device, Folder, FileName, Shares}
use Rattle.bep_model.specs.Foreign.{IsForeign}
use Rattle.bep_model.specs.Firm.{AreEqual}
use Rattle.bep_model.proofs.StaysFacts.{not_deleted}
use Rattle.bep_tables.specs.declared.cut.CutParts.{CutParts}
use Rattle.bep_tables.specs.declared.share.Share.{Share}
use Rattle.bep_tables.specs.declared.table.entry.Source.TheVariants.{Own, View, Flight, Pull}
use Rattle.bep_tables.specs.Cut.{IsCut, shares_of, share_of, tables_of}
use Rattle.bep_tables.specs.Laws.{CutSays}
use Rattle.bep_tables.specs.Listed.{Holding, Record, Node, Listed}
use Rattle.bep_tables.specs.Said.{Holds, EntriesAreHeld, HoldersShare}
use Rattle.bep_tables.proofs.Tables.{share_is_found}
use Rattle.bep_audit.specs.Group.{IsGroupOf}
use Rattle.bep_audit.proofs.GroupFacts.{in_group, of_group}
use Rattle.bep_audit.proofs.CutFacts.{share_of_device, device_of_share}
use Rattle.bep_converge.specs.declared.converge_reason.ConvergeReason.{ConvergeReason}
use Rattle.bep_converge.specs.declared.converge_reason.ConvergeReason.TheVariants.{NothingPrevails, Concurrent, ContentDiffers, LocalOnly, StoreUnclean, StoreDiffers, SendOnly, WouldCopy}
use Rattle.bep_converge.specs.Prevails.{IsAnywhere, IsOwn, IsTop, IsAtTop, TakesChanges}
use Rattle.bep_converge.specs.ConvergeReasons.{AsksThere}
use Rattle.bep_converge_check.specs.inner.Line.{AreInLine, Agree}
use Rattle.bep_converge_check.specs.inner.Records.{valid_held, own_held, IsIn, IsTopIn}
use Rattle.bep_converge_check.specs.inner.Asked.{AsksOwn, AsksOfShare}
use Rattle.bep_converge_check.proofs.KnownFacts.{valid_is, from_valid}

-- ---- the records of a name

module _ (held : EntriesAreHeld) (shared : HoldersShare) (cut : CutParts) (is_cut : IsCut cut) (key : Folder × FileName) (group : List Listed) (is_group : IsGroupOf cut key group) where
  abbrev T : Tables
  T = tables_of cut

  own_by : (device : Device) (holding : Holding) → Holds T device key.0 key.1 holding → (entry : Entry) → own_held holding ≡ Some entry → IsOwn T device key.0 key.1 entry
  own_by device (Record Own own) has entry is = let v = from_valid own entry is in (has ∙ ap Some v.0, subst (λ (e : Entry). e.invalid ≡ false) v.0 v.1)
  own_by device (Record View found) has entry is = absurd (cc)
  own_by device (Record Flight found) has entry is = absurd (cc)
  own_by device (Record Pull found) has entry is = absurd (cc)
  own_by device (Node node) has entry is = absurd (cc)

  known_by : (device : Device) (holding : Holding) → Holds T device key.0 key.1 holding → (entry : Entry) → valid_held holding ≡ Some entry → IsOwn T device key.0 key.1 entry ⊎ IsForeign T device key.0 key.1 entry
  known_by device (Record Own own) has entry is = inl (own_by device (Record Own own) has entry is)
  known_by device (Record View found) has entry is = inr (subst (IsForeign T device key.0 key.1) (from_valid found entry is).0 (record { known_by = inl has.0; valid = has.1 }))
  known_by device (Record Flight found) has entry is = inr (subst (IsForeign T device key.0 key.1) (from_valid found entry is).0 (record { known_by = inr (inl has.0); valid = has.1 }))
  known_by device (Record Pull found) has entry is = inr (subst (IsForeign T device key.0 key.1) (from_valid found entry is).0 (record { known_by = inr (inr has.0); valid = has.1 }))
  known_by device (Node node) has entry is = absurd (cc)

  shares_it : (one : Listed) → Contains group one → Shares T one.device key.0
  shares_it one member =
      let there = (is_group one).0 member in
      subst (λ (k : Folder × FileName). Shares T one.device k.0) there.1 (shared cut one is_cut there.0)

  pub anywhere : (entry : Entry) → IsIn group entry → IsAnywhere T key.0 key.1 entry
  anywhere entry has =
      (has.0.device, shares_it has.0 has.1, known_by has.0.device has.0.holding (of_group held cut is_cut key group is_group has.0 has.1) entry has.2)

  at_device : (device : Device) (holding : Holding) → Holds T device key.0 key.1 holding → (entry : Entry) → valid_held holding ≡ Some entry → IsIn group entry
  at_device device holding has entry valid = (record { folder = key.0; name = key.1; device = device; holding = holding }, in_group held cut is_cut key group is_group device holding has, valid)

  pub from_anywhere : (entry : Entry) → IsAnywhere T key.0 key.1 entry → IsIn group entry
  from_anywhere entry is =
      ⊎_elim
      (λ own. at_device is.0 (Record Own entry) own.0 entry (valid_is entry own.1))
      (λ foreign.
      ⊎_elim
      (λ viewed. at_device is.0 (Record View entry) (viewed, foreign.valid) entry (valid_is entry foreign.valid))
      (⊎_elim
      (λ flying. at_device is.0 (Record Flight entry) (flying, foreign.valid) entry (valid_is entry foreign.valid))
      (λ target. at_device is.0 (Record Pull entry) (target, foreign.valid) entry (valid_is entry foreign.valid)))
      foreign.known_by)
      is.2

  pub top_is : (top : Entry) → IsTopIn group top → IsTop T key.0 key.1 top
  top_is top is =
      let one = is.0 in
      record {
        owner = one.0.device;
        shares = shares_it one.0 one.1;
        owned = own_by one.0.device one.0.holding (of_group held cut is_cut key group is_group one.0 one.1) top one.2;
        above_all = λ entry any. is.1 entry (from_anywhere entry any);
      }

  pub top_among : (top : Entry) → IsTop T key.0 key.1 top → IsTopIn group top
  top_among top is = (
    (
      record { folder = key.0; name = key.1; device = is.owner; holding = Record Own top },
      in_group held cut is_cut key group is_group is.owner (Record Own top) is.owned.0,
      valid_is top is.owned.1,
    ),
    λ entry has. is.above_all entry (anywhere entry has),
  )

  -- a list of the valid records of the entries has all records of the name
  pub all_as : (Known : Entry → Type 0) → ((entry : Entry) → Known entry ↔ IsIn group entry) → (entry : Entry) → Known entry ↔ IsAnywhere T key.0 key.1 entry
  all_as Known exactly entry = (λ known. anywhere entry ((exactly entry).0 known), λ there. (exactly entry).1 (from_anywhere entry there))

-- what is asked of some records is asked of those that are the same
module _ (One Other : Entry → Type 0) (exactly : (entry : Entry) → One entry ↔ Other entry) where
  pub in_line_as : AreInLine One ↔ AreInLine Other
  in_line_as = (
    λ in_line one other here there. in_line one other ((exactly one).1 here) ((exactly other).1 there),
    λ in_line one other here there. in_line one other ((exactly one).0 here) ((exactly other).0 there),
  )

  pub agree_as : Agree One ↔ Agree Other
  agree_as = (
    λ agree one other here there. agree one other ((exactly one).1 here) ((exactly other).1 there),
    λ agree one other here there. agree one other ((exactly one).0 here) ((exactly other).0 there),
  )

-- ---- two tops

deleted_too : (top other : Entry) → content_of top ≡ content_of other → top.deleted ≡ true → other.deleted ≡ true
deleted_too top other same deleted =
    let gone : content_of top ≡ Deleted = ap (λ (b : Bool). cond b Deleted (content_of_kind top.kind top.blocks top.target)) deleted in
    ⊎_elim (λ is. is) (λ there. absurd (not_deleted other there (sym same ∙ gone))) (cases_Bool other.deleted)

pub at_other_top : (own : Option Entry) (top other : Entry) → AreEqual top.version other.version → content_of top ≡ content_of other → IsAtTop own top → IsAtTop own other
at_other_top None top other version same at = deleted_too top other same at
at_other_top (Some own) top other version same at = (
  λ id. let a = at.0 id in let b = version.0 id in omega (arith, a, b),
  λ id. let a = at.1 id in let b = version.1 id in omega (arith, a, b),
)

-- ---- a device that shares the folder

-- a device shares a folder once
one_share : (cut : CutParts) → IsCut cut → (folder : Folder) (one other : Share) → Contains (shares_of folder cut.folders) one → Contains (shares_of folder cut.folders) other → one.device ≡ other.device → one ≡ other
one_share cut is_cut folder one other here there same =
    let first : share_of one.device (shares_of folder cut.folders) ≡ Some one = share_is_found cut folder one is_cut here in
    let second : share_of other.device (shares_of folder cut.folders) ≡ Some other = share_is_found cut folder other is_cut there in
    let e : Some one ≡ Some other = sym first ∙ ap (λ (d : Device). share_of d (shares_of folder cut.folders)) same ∙ second in
    cc

-- it takes changes exactly where it shares the folder in a kind other than send only
pub takes_by_kind : CutSays → (cut : CutParts) → IsCut cut → (folder : Folder) (share : Share) → Contains (shares_of folder cut.folders) share → TakesChanges (tables_of cut) share.device folder ↔ (share.kind ≢ kinds.SendOnly)
takes_by_kind said cut is_cut folder share member = (
  λ takes.
      let there = (said.sharing cut folder share.device takes.0).0 takes.1 in
      let same : there.0 ≡ share = one_share cut is_cut folder there.0 share there.1 member there.2 in
      let kind : share.kind ≡ takes.0 = ap (λ (s : Share). s.kind) (sym same) ∙ there.3 in
      λ only. takes.2 (sym kind ∙ only),
  λ other. (share.kind, (said.sharing cut folder share.device share.kind).1 (share, member, refl, refl), other),
)

module _ (said : CutSays) (cut : CutParts) (is_cut : IsCut cut) (folder : Folder) (name : FileName) (top : Entry) (is_top : IsTop (tables_of cut) folder name top) (agree : Agree (IsAnywhere (tables_of cut) folder name)) where
  top_here : IsAnywhere (tables_of cut) folder name top
  top_here = (is_top.owner, is_top.shares, inl is_top.owned)

  same_top : (other : Entry) → IsTop (tables_of cut) folder name other → AreEqual top.version other.version × (content_of top ≡ content_of other)
  same_top other is =
      let there : IsAnywhere (tables_of cut) folder name other = (is.owner, is.shares, inl is.owned) in
      let version : AreEqual top.version other.version = (is.above_all top top_here, is_top.above_all other there) in
      (version, agree top other top_here there version)

  module _ (share : Share) (member : Contains (shares_of folder cut.folders) share) where
    abbrev Recorded : Option Entry
    Recorded = (tables_of cut).own share.device folder name

    abbrev Stored : Option NodeParts
    Stored = (tables_of cut).node share.device folder name

    takes_as : TakesChanges (tables_of cut) share.device folder ↔ (share.kind ≢ kinds.SendOnly)
    takes_as = takes_by_kind said cut is_cut folder share member

    asked_by_tables : (reason : ConvergeReason) → AsksOwn reason top share.device share.kind Recorded Stored ↔ AsksThere (tables_of cut) reason folder name share.device
    asked_by_tables NothingPrevails = (λ h. tt, λ h. tt)
    asked_by_tables Concurrent = (λ h. tt, λ h. tt)
    asked_by_tables ContentDiffers = (λ h. tt, λ h. tt)
    asked_by_tables LocalOnly = (λ h. h, λ h. h)
    asked_by_tables StoreUnclean = (λ h. h, λ h. h)
    asked_by_tables StoreDiffers = (λ h. h, λ h. h)
    asked_by_tables SendOnly = (
      λ asks other is.
          let same = same_top other is in
          ⊎_elim (λ at. inl (at_other_top Recorded top other same.0 same.1 at)) (λ takes. inr (takes_as.1 takes)) asks,
      λ asks. ⊎_elim (λ at. inl at) (λ takes. inr (takes_as.0 takes)) (asks top is_top),
    )
    asked_by_tables WouldCopy = (
      λ within entry any. let below = is_top.above_all entry any share.device in omega (arith, below, within),
      λ all. all top top_here,
    )

    asked_of_share : (reason : ConvergeReason) → AsksOfShare reason top name share ↔ AsksThere (tables_of cut) reason folder name share.device
    asked_of_share reason =
        subst (λ (own : Option Entry). AsksOwn reason top share.device share.kind own (get share.store name) ↔ AsksThere (tables_of cut) reason folder name share.device) (said.own cut folder name share is_cut member)
        (subst (λ (node : Option NodeParts). AsksOwn reason top share.device share.kind Recorded node ↔ AsksThere (tables_of cut) reason folder name share.device) (said.node cut folder name share is_cut member)
        (asked_by_tables reason))

  -- the devices meet what a reason asks exactly where their shares do
  pub met_exactly : (reason : ConvergeReason) (device : Device) →
      ((share : Share) → Contains (shares_of folder cut.folders) share → share.device ≡ device → AsksOfShare reason top name share) ↔ (Shares (tables_of cut) device folder → AsksThere (tables_of cut) reason folder name device)
  met_exactly reason device = (
    λ met shares.
        let share = share_of_device said cut is_cut folder device shares in
        subst (AsksThere (tables_of cut) reason folder name) share.2 ((asked_of_share share.0 share.1 reason).0 (met share.0 share.1 share.2)),
    λ asks share member same.
        (asked_of_share share member reason).1
        (subst (AsksThere (tables_of cut) reason folder name) (sym same)
        (asks (subst (λ (d : Device). Shares (tables_of cut) d folder) same (device_of_share said cut is_cut folder share member)))),
  )
