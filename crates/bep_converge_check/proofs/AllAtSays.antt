-- What the reasons say of a name as a whole and of each device is what they ask at the name.
use Rattle.std.proofs.Common.{◌≡◌, ◌↔◌, Bool, true≢false, IsTrue, List, Contains, Option, Some, None, refl, sym, ap, subst, ◌∙◌, arith}
use Rattle.std.specs.Prelude.{IfSome, IfNone, is_some}
use Rattle.bep_record.specs.declared.entry.Entry.{Entry}
use Rattle.bep_model.specs.Tables.{Tables, Device, Folder, FileName, Shares}
use Rattle.bep_model.specs.Foreign.{IsKnown}
use Rattle.bep_tables.specs.declared.cut.CutParts.{CutParts}
use Rattle.bep_tables.specs.declared.share.Share.{Share}
use Rattle.bep_tables.specs.Cut.{IsCut, shares_of, tables_of}
use Rattle.bep_tables.specs.Laws.{CutSays}
use Rattle.bep_audit.specs.inner.Walk.{key_in}
use Rattle.bep_audit.proofs.CutFacts.{share_of_device, device_of_share}
use Rattle.bep_converge.specs.declared.converge_reason.ConvergeReason.{ConvergeReason}
use Rattle.bep_converge.specs.declared.converge_reason.ConvergeReason.TheVariants.{NothingPrevails, Concurrent, ContentDiffers, LocalOnly, StoreUnclean, StoreDiffers, SendOnly, WouldCopy}
use Rattle.bep_converge.specs.ConvergeReasons.{AsksAtDevice, AsksThere}
use Rattle.bep_gather.specs.Adding.{Each}
use Rattle.bep_converge_check.specs.declared.unmet.TheConstants.{OF_DEVICES}
use Rattle.bep_converge_check.specs.Hindrance.{Hinder}
use Rattle.bep_converge_check.specs.Hindrances.{IsMetThere}
use Rattle.bep_converge_check.specs.inner.Says.{hinder_at, SaysWhole, SaysShare, SaysName}

-- what all reasons say of the name as a whole, and of each of these devices
abbrev pub SaysAll : Tables → Folder × FileName → List Share → Hinder → Type 0
SaysAll t key shares one =
    ((SaysWhole t key NothingPrevails one × SaysWhole t key Concurrent one) × SaysWhole t key ContentDiffers one) × Each (SaysShare t key) shares one

-- one at a name is of its reason there
at_name : (key : Folder × FileName) (one : Hinder) → key_in one.place ≡ key → one ≡ hinder_at one.reason key one.place.device
at_name key one here = λ i. record { reason = one.reason; place = record { folder = (here i).0; name = (here i).1; device = one.place.device } }

module _ (said : CutSays) (cut : CutParts) (is_cut : IsCut cut) (key : Folder × FileName) where
  abbrev T : Tables
  T = tables_of cut

  abbrev All : Hinder → Type 0
  All = SaysAll T key (shares_of key.0 cut.folders)

  -- what a reason asks of devices is asked of each that shares the folder
  there : (reason : ConvergeReason) (device : Device) → Contains OF_DEVICES reason → All (hinder_at reason key (Some device)) → Shares T device key.0 → AsksThere T reason key.0 key.1 device
  there reason device listed says shares =
      let share = share_of_device said cut is_cut key.0 device shares in
      subst (AsksThere T reason key.0 key.1) share.2
      (says.1 share.0 share.1 reason listed (ap (λ (d : Device). hinder_at reason key (Some d)) (sym share.2)))

  asked : (reason : ConvergeReason) (device : Option Device) → All (hinder_at reason key device) → AsksAtDevice T reason key.0 key.1 device
  asked NothingPrevails None says = says.0.0.0 refl
  asked Concurrent None says = says.0.0.1 refl
  asked ContentDiffers None says = says.0.1 refl
  asked LocalOnly None says = tt
  asked StoreUnclean None says = tt
  asked StoreDiffers None says = tt
  asked SendOnly None says = tt
  asked WouldCopy None says = tt
  asked NothingPrevails (Some device) says = λ _. tt
  asked Concurrent (Some device) says = λ _. tt
  asked ContentDiffers (Some device) says = λ _. tt
  asked LocalOnly (Some device) says = there LocalOnly device (0, omega arith, refl) says
  asked StoreUnclean (Some device) says = there StoreUnclean device (1, omega arith, refl) says
  asked StoreDiffers (Some device) says = there StoreDiffers device (2, omega arith, refl) says
  asked SendOnly (Some device) says = there SendOnly device (3, omega arith, refl) says
  asked WouldCopy (Some device) says = there WouldCopy device (4, omega arith, refl) says

  -- where all is met at a known name, what is of one reason at one place of it is met
  met_as : IsKnown T key.0 key.1 → (one : Hinder) → SaysName T key one → (reason : ConvergeReason) (device : Option Device) → one ≡ hinder_at reason key device → AsksAtDevice T reason key.0 key.1 device
  met_as known one met reason device is = subst (IsMetThere T) is (met (ap (λ (h : Hinder). key_in h.place) is)) known

  pub all_says : IsKnown T key.0 key.1 → (one : Hinder) → All one ↔ SaysName T key one
  all_says known one = (
    λ says here.
        let is = at_name key one here in
        subst (IsMetThere T) (sym is) (λ _. asked one.reason one.place.device (subst All is says)),
    λ met. (
      ((λ is. met_as known one met NothingPrevails None is, λ is. met_as known one met Concurrent None is), λ is. met_as known one met ContentDiffers None is),
      λ share member reason listed is. met_as known one met reason (Some share.device) is (device_of_share said cut is_cut key.0 share member),
    ),
  )

-- whether there is a top
pub top_or_none : {X : Type 0} (entry_of : X → Entry) (IsTop Is : Entry → Type 0) → ((entry : Entry) → Is entry ↔ IsTop entry) → (found : Option X) → IfSome found (λ x. Is (entry_of x)) → IfNone found ((entry : Entry) → ¬ Is entry) →
    (r : Bool) → r ≡ is_some found → IsTrue r ↔ ((entry : Entry) × IsTop entry)
top_or_none entry_of IsTop Is same (Some x) is none r told = (λ _. (entry_of x, (same (entry_of x)).0 is), λ _. told)
top_or_none entry_of IsTop Is same None is none r told = (λ yes. absurd (true≢false (sym yes ∙ told)), λ some. absurd (none some.0 ((same some.0).1 some.1)))

-- of a name that isn't known nothing is asked
pub unknown_says : (t : Tables) (key : Folder × FileName) → ¬ IsKnown t key.0 key.1 → (one : Hinder) → SaysName t key one
unknown_says t key unknown one here known = absurd (unknown (subst (λ (k : Folder × FileName). IsKnown t k.0 k.1) here known))
