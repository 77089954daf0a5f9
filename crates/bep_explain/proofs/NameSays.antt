-- What is asked of the rows about one name, all together, is what is asked of each.
use Rattle.std.proofs.Common.{◌≡◌, ◌≢◌, ◌↔◌, Bool, IsTrue, List, Contains, Option, Some, None, refl, sym, ap, subst, ◌∙◌}
use Rattle.std.specs.Prelude.{IfSome, IfNone}
use Rattle.std.specs.Borrow.{Bor}
use Rattle.std.specs.FinMap.{get}
use Rattle.std.specs.Option.{option_copied}
use Rattle.bep_record.specs.declared.entry.Entry.{Entry}
use Rattle.bep_record.specs.declared.node.NodeParts.{NodeParts}
use Rattle.bep_record.specs.Content.{content_of}
use Rattle.bep_choice.specs.Choice.{Candidate}
use Rattle.bep_model.specs.declared.row.Row.{Row}
use Rattle.bep_model.specs.declared.reason.Reason.{Reason}
use Rattle.bep_model.specs.declared.reason.Reason.TheVariants.{NameUnknown, NotWinner}
use Rattle.bep_model.specs.Tables.{Tables, Device, Folder, FileName}
use Rattle.bep_model.specs.Foreign.{IsKnown}
use Rattle.bep_model.specs.Winner.{IsWinner}
use Rattle.bep_model.specs.Settled.{key_of}
use Rattle.bep_model.specs.Reasons.{AsksShare}
use Rattle.bep_tables.specs.declared.cut.CutParts.{CutParts}
use Rattle.bep_tables.specs.declared.share.Share.{Share}
use Rattle.bep_tables.specs.Cut.{IsCut, shares_of, tables_of}
use Rattle.bep_tables.specs.Listed.{Listed}
use Rattle.bep_audit.specs.Candidates.{FindsWinner}
use Rattle.bep_audit.specs.Group.{AsksBeside, GroupIsAsked, IsGroupOf}
use Rattle.bep_audit.specs.Walk.{Failure}
use Rattle.bep_gather.specs.Adding.{Each}
use Rattle.bep_explain.specs.inner.Rows.{AreAbout}
use Rattle.bep_explain.specs.inner.Says.{failure_at, AsksBoth, AsksOtherBeside, SaysName, SaysAtRow}
use Rattle.bep_explain.proofs.TwoContents.{same_content_suffices, two_contents_suffice}

-- of these rows this is one of another content than the row's; or none is
abbrev pub IsOther : List Row → Row → Option Row → Type 0
IsOther rows row None = (one : Row) → Contains rows one → content_of one.entry ≡ content_of row.entry
IsOther rows row (Some other) = Contains rows other × (content_of other.entry ≢ content_of row.entry)

module _ (t : Tables) (rows : List Row) (row : Row) (about : AreAbout (key_of row) rows) (there : Contains rows row) where
  -- what is asked beside two rows is asked beside each
  asks_each : (other : Option Row) → IsOther rows row other → (reason : Reason) (device : Device) → AsksBoth t reason row other device ↔ ((one : Row) → Contains rows one → AsksShare t reason one device)
  asks_each None same reason device = (
    λ both one member. same_content_suffices t reason device row one (about one member) (same one member) both.0,
    λ each. (each row there, tt),
  )
  asks_each (Some other) is reason device = (
    λ both one member. two_contents_suffice t reason device row other one (about other is.0) (about one member) is.1 both.0 both.1,
    λ each. (each row there, each other is.0),
  )

module _ (cut : CutParts) (rows : List Row) (row : Row) (about : AreAbout (key_of row) rows) (there : Contains rows row) (other : Option Row) (is_other : IsOther rows row other) where
  abbrev t : Tables
  t = tables_of cut

  abbrev AtName : Failure → Type 0
  AtName = SaysName t (shares_of row.folder cut.folders) rows row other

  each_row : (one : Failure) → AtName one → Each (SaysAtRow cut) rows one
  each_row one says third member =
      let same = about third member in record {
        known = λ at. subst (λ (k : Folder × FileName). IsKnown t k.0 k.1) (sym same) (says.known (at ∙ ap (λ k. failure_at NameUnknown k None) same));
        winner = λ at. subst (λ (k : Folder × FileName). IsWinner t k.0 k.1 (third.device, third.entry)) (sym same) (says.winner (at ∙ ap (λ k. failure_at NotWinner k None) same) third member);
        devices = λ share shares reason any at.
            (asks_each t rows row about there other is_other reason share.device).0
            (says.devices share (subst (λ (k : Folder × FileName). Contains (shares_of k.0 cut.folders) share) same shares) reason any (at ∙ ap (λ k. failure_at reason k (Some share.device)) same))
            third member;
      }

  each_at : (one : Failure) → Each (SaysAtRow cut) rows one → AtName one
  each_at one each = record {
    known = λ at. (each row there).known at;
    winner = λ at third member.
        let same = about third member in
        subst (λ (k : Folder × FileName). IsWinner t k.0 k.1 (third.device, third.entry)) same ((each third member).winner (at ∙ ap (λ k. failure_at NotWinner k None) (sym same)));
    devices = λ share shares reason any at.
        (asks_each t rows row about there other is_other reason share.device).1
        (λ third member.
        let same = about third member in
        (each third member).devices share (subst (λ (k : Folder × FileName). Contains (shares_of k.0 cut.folders) share) (sym same) shares) reason any (at ∙ ap (λ k. failure_at reason k (Some share.device)) (sym same)));
  }

  pub name_says : (one : Failure) → AtName one ↔ Each (SaysAtRow cut) rows one
  name_says one = (each_row one, each_at one)

-- ---- what was found of another content
pub is_other : (rows : List Row) (row : Row) (found : Option (Bor Row)) → IfSome found (λ one. Contains rows one.now × (content_of one.now.entry ≢ content_of row.entry)) → IfNone found ((one : Row) → Contains rows one → content_of one.entry ≡ content_of row.entry) → IsOther rows row (option_copied found)
is_other rows row None some none = none
is_other rows row (Some other) some none = some

pub other_is_about : (rows : List Row) (row : Row) (found : Option (Bor Row)) → AreAbout (key_of row) rows → IfSome found (λ one. Contains rows one.now × (content_of one.now.entry ≢ content_of row.entry)) → IfSome found (λ one. key_of one.now ≡ key_of row)
other_is_about rows row None about some = tt
other_is_about rows row (Some other) about some = about other.now some.0

-- ---- what is asked of a device beside two rows and the entries of their name
module _ (asked : GroupIsAsked) (cut : CutParts) (is_cut : IsCut cut) (row : Row) (group : List Listed) (is_group : IsGroupOf cut (key_of row) group) (share : Share) (member : Contains (shares_of row.folder cut.folders) share) (reason : Reason) (own : Option Entry) (own_is : own ≡ get share.own row.entry.name) (stored : Option NodeParts) (stored_is : stored ≡ get share.store row.entry.name) where
  beside : (one : Row) → key_of one ≡ key_of row → AsksBeside reason one group share.device own stored ↔ AsksShare (tables_of cut) reason one share.device
  beside one same =
      let own_there : get share.own one.entry.name ≡ own = ap (λ (k : Folder × FileName). get share.own k.1) same ∙ sym own_is in
      let stored_there : get share.store one.entry.name ≡ stored = ap (λ (k : Folder × FileName). get share.store k.1) same ∙ sym stored_is in
      subst (λ (o : Option Entry). AsksBeside reason one group share.device o stored ↔ AsksShare (tables_of cut) reason one share.device) own_there
      (subst (λ (s : Option NodeParts). AsksBeside reason one group share.device (get share.own one.entry.name) s ↔ AsksShare (tables_of cut) reason one share.device) stored_there
      (asked cut one group reason share is_cut (subst (λ (k : Folder × FileName). IsGroupOf cut k group) (sym same) is_group) (subst (λ (k : Folder × FileName). Contains (shares_of k.0 cut.folders) share) (sym same) member)))

  pub both_asked : (other : Option (Bor Row)) → IfSome other (λ one. key_of one.now ≡ key_of row) → (AsksBeside reason row group share.device own stored × AsksOtherBeside reason (option_copied other) group share.device own stored) ↔ AsksBoth (tables_of cut) reason row (option_copied other) share.device
  both_asked None about = (λ both. ((beside row refl).0 both.0, tt), λ both. ((beside row refl).1 both.0, tt))
  both_asked (Some other) about = (
    λ both. ((beside row refl).0 both.0, (beside other.now about).0 both.1),
    λ both. ((beside row refl).1 both.0, (beside other.now about).1 both.1),
  )

-- ---- a row about a name has the name's winner
pub won_exactly : (t : Tables) (row one : Row) (found : Option Candidate) (r : Bool) → key_of one ≡ key_of row → FindsWinner t row.folder row.entry.name found →
    (FindsWinner t one.folder one.entry.name found → IsTrue r ↔ IsWinner t one.folder one.entry.name (one.device, one.entry)) → IsTrue r ↔ IsWinner t row.folder row.entry.name (one.device, one.entry)
won_exactly t row one found r same finds exactly =
    let at = exactly (subst (λ (k : Folder × FileName). FindsWinner t k.0 k.1 found) (sym same) finds) in (
      λ is. subst (λ (k : Folder × FileName). IsWinner t k.0 k.1 (one.device, one.entry)) same (at.0 is),
      λ wins. at.1 (subst (λ (k : Folder × FileName). IsWinner t k.0 k.1 (one.device, one.entry)) (sym same) wins),
    )
