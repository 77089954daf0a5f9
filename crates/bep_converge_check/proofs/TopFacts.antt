-- Which own record is at all tops of a name's entries, and which one of theirs counts more of a device's changes.
use Rattle.std.proofs.Common.{◌≢◌, ◌⊎◌, ◌↔◌, ◌≤◌, Bool, true, IsTrue, List, Contains, Option, refl, inl, inr, ⊎_elim}
use Rattle.bep_record.specs.declared.entry.Entry.{Entry}
use Rattle.bep_record.specs.declared.folder_kind.FolderKind.{FolderKind}
use Rattle.bep_record.specs.declared.folder_kind.FolderKind.TheVariants as kinds
use Rattle.bep_record.specs.Vector.{counter_of}
use Rattle.bep_model.specs.Tables.{Device}
use Rattle.bep_machine.specs.Replica.{version_of}
use Rattle.bep_tables.specs.Listed.{Listed}
use Rattle.bep_converge.specs.Prevails.{IsAtTop}
use Rattle.bep_converge_check.specs.inner.Records.{IsIn, IsTopIn}
use Rattle.bep_converge_check.specs.inner.Says.{IsAtIfAbove, IsCountedIfValid}
use Rattle.bep_converge_check.proofs.KnownFacts.{own_is_in}
use Rattle.bep_converge_check.proofs.BehindFacts.{top_too}

module _ (group : List Listed) (own : Option Entry) where
  -- it is at all tops
  abbrev pub IsAtAll : Type 0
  IsAtAll = (top : Entry) → IsTopIn group top → IsAtTop own top

  -- so it is exactly where it is at each own record that is above one of them
  pub at_each : (top : Entry) → IsTopIn group top → ((one : Listed) → Contains group one → IsAtIfAbove own top one) ↔ IsAtAll
  at_each top is_top = (
    λ each other is. each is.0.0 is.0.1 other is.0.2 (is.1 top (own_is_in group top is_top.0)),
    λ all one member entry is within. all entry (top_too group top entry is_top (one, member, is) within),
  )

  -- there is nothing to be at where there is none
  pub at_none : ((top : Entry) → ¬ IsTopIn group top) → IsTrue true ↔ IsAtAll
  at_none none = (λ _ top is. absurd (none top is), λ _. refl)

  -- a device that only sends is to be at all tops, and any other takes changes
  abbrev pub TakesOrIsAt : FolderKind → Type 0
  TakesOrIsAt kind = (top : Entry) → IsTopIn group top → IsAtTop own top ⊎ (kind ≢ kinds.SendOnly)

  pub where_it_sends : (r : Bool) → IsTrue r ↔ IsAtAll → IsTrue r ↔ TakesOrIsAt kinds.SendOnly
  where_it_sends r exactly = (
    λ is top is_top. inl (exactly.0 is top is_top),
    λ all. exactly.1 (λ top is_top. ⊎_elim (λ at. at) (λ other. absurd (other refl)) (all top is_top)),
  )

  pub where_it_takes : (kind : FolderKind) → kind ≢ kinds.SendOnly → IsTrue true ↔ TakesOrIsAt kind
  where_it_takes kind other = (λ _ top is_top. inr other, λ _. refl)

  -- each valid record counts no more of the device's changes exactly where each entry's does
  pub counted_each : (device : Device) → ((one : Listed) → Contains group one → IsCountedIfValid own device one) ↔
      ((entry : Entry) → IsIn group entry → counter_of entry.version device ≤ counter_of (version_of own) device)
  counted_each device = (λ each entry has. each has.0 has.1 entry has.2, λ all one member entry is. all entry (one, member, is))
