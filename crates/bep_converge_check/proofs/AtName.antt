-- The first reason that fails at one name.
use Rattle.std.proofs.Common.{◌≡◌, ◌⊎◌, ◌↔◌, ◌<◌, ◌≤◌, List, Option, Some, None, refl, sym, subst, inl, inr, ⊎_elim, arith}
use Rattle.std.specs.declared.cmp.Ordering.{Ordering}
use Rattle.std.specs.declared.cmp.Ordering.TheVariants.{Less, Equal, Greater}
use Rattle.std.specs.Ordering.{nat_cmp, ordering_then}
use Rattle.std.proofs.lemmas.Cmp.{ranked}
use Rattle.bep_record.specs.declared.entry.Entry.{Entry}
use Rattle.bep_model.specs.Tables.{Tables, Device, Folder, FileName, Shares}
use Rattle.bep_model.specs.Foreign.{IsKnown}
use Rattle.bep_model.specs.Reasons.{place_cmp, device_rank}
use Rattle.bep_audit.specs.inner.Walk.{key_in}
use Rattle.bep_audit.proofs.RowWalk.{device_before}
use Rattle.bep_converge.specs.declared.converge_reason.ConvergeReason.{ConvergeReason}
use Rattle.bep_converge.specs.declared.converge_reason.ConvergeReason.TheVariants.{NothingPrevails, Concurrent, ContentDiffers, LocalOnly, StoreUnclean, StoreDiffers, SendOnly, WouldCopy}
use Rattle.bep_converge.specs.Prevails.{IsAnywhere, IsTop}
use Rattle.bep_converge.specs.ConvergeReasons.{converge_number_of, AsksWhole, AsksThere, AsksAtDevice}
use Rattle.bep_converge_check.specs.inner.Line.{AreInLine, Agree}
use Rattle.bep_converge_check.specs.Hindrance.{Hinder, hinder_cmp}
use Rattle.bep_converge_check.specs.inner.Found.{FindsHinder}
use Rattle.bep_converge_check.specs.inner.Unmet.{IsMetBy, FindsUnmet}
use Rattle.bep_tables.specs.declared.share.Share.{Share}
use Rattle.bep_converge_check.proofs.DeviceReasons.{same_number}

-- what is less by one order and then another
then_less : (o p : Ordering) → ordering_then o p ≡ Less → (o ≡ Less) ⊎ ((o ≡ Equal) × (p ≡ Less))
then_less Less p e = inl refl
then_less Equal p e = inr (refl, e)
then_less Greater p e = absurd (cc)

-- what comes before is of a lesser reason, or of the same one at an earlier place
pub less_hinder : (one other : Hinder) → hinder_cmp one other ≡ Less → (converge_number_of one.reason < converge_number_of other.reason) ⊎ ((one.reason ≡ other.reason) × (place_cmp one.place other.place ≡ Less))
less_hinder one other less =
    ⊎_elim
    (λ lesser. inl (ranked (converge_number_of one.reason) (converge_number_of other.reason) Less (sym lesser)))
    (λ same. inr (same_number one.reason other.reason (ranked (converge_number_of one.reason) (converge_number_of other.reason) Equal (sym same.0)), same.1))
    (then_less (nat_cmp (converge_number_of one.reason) (converge_number_of other.reason)) (place_cmp one.place other.place) less)

module _ (t : Tables) (key : Folder × FileName) where
  -- what a reason asks at a place of the name
  abbrev pub AskedAt : ConvergeReason → Option Device → Type 0
  AskedAt reason device = AsksAtDevice t reason key.0 key.1 device

  at_place : (one : Hinder) → key_in one.place ≡ key → AskedAt one.reason one.place.device → AsksAtDevice t one.reason one.place.folder one.place.name one.place.device
  at_place one here asked = subst (λ (k : Folder × FileName). AsksAtDevice t one.reason k.0 k.1 one.place.device) (sym here) asked

  -- of a name that isn't known nothing is asked
  pub unknown_found : ¬ IsKnown t key.0 key.1 → FindsHinder t (λ k. k ≡ key) None
  unknown_found unknown one here known = absurd (unknown (subst (λ (k : Folder × FileName). IsKnown t k.0 k.1) here known))

  found_none : ((reason : ConvergeReason) (device : Option Device) → AskedAt reason device) → FindsHinder t (λ k. k ≡ key) None
  found_none all one here known = at_place one here (all one.reason one.place.device)

  abbrev pub At : ConvergeReason → Option Device → Hinder
  At reason device = record { reason = reason; place = record { folder = key.0; name = key.1; device = device } }

  found_some : IsKnown t key.0 key.1 → (reason : ConvergeReason) (device : Option Device) → ¬ AskedAt reason device →
      ((lesser : ConvergeReason) (any : Option Device) → converge_number_of lesser < converge_number_of reason → AskedAt lesser any) →
      ((earlier : Option Device) → device_rank earlier < device_rank device → AskedAt reason earlier) → FindsHinder t (λ k. k ≡ key) (Some (At reason device))
  found_some known reason device unmet least first = record {
    fails = λ asked. unmet (asked refl known);
    before = λ earlier less here known_too.
        at_place earlier here
        (⊎_elim
        (λ lesser. least earlier.reason earlier.place.device lesser)
        (λ same.
        subst (λ (r : ConvergeReason). AskedAt r earlier.place.device) (sym same.0)
        (first earlier.place.device (device_before earlier.place (record { folder = key.0; name = key.1; device = device }) here same.1)))
        (less_hinder earlier (At reason device) less));
  }

  -- ---- the name as a whole

  -- a reason on the name as a whole asks nothing of a device
  part_of_whole : (reason : ConvergeReason) → converge_number_of reason ≤ 3 → (device : Device) → AskedAt reason (Some device)
  part_of_whole NothingPrevails few device shares = tt
  part_of_whole Concurrent few device shares = tt
  part_of_whole ContentDiffers few device shares = tt
  part_of_whole LocalOnly few device shares = absurd (omega (arith, few))
  part_of_whole StoreUnclean few device shares = absurd (omega (arith, few))
  part_of_whole StoreDiffers few device shares = absurd (omega (arith, few))
  part_of_whole SendOnly few device shares = absurd (omega (arith, few))
  part_of_whole WouldCopy few device shares = absurd (omega (arith, few))

  whole_or_part : (reason : ConvergeReason) → converge_number_of reason ≤ 3 → AsksWhole t reason key.0 key.1 → (device : Option Device) → AskedAt reason device
  whole_or_part reason few whole None = whole
  whole_or_part reason few whole (Some device) = part_of_whole reason few device

  none_before : (earlier : Option Device) → device_rank earlier < 0 → (reason : ConvergeReason) → AskedAt reason earlier
  none_before earlier less reason = absurd (omega (arith, less))

  whole_fails : IsKnown t key.0 key.1 → (reason : ConvergeReason) → ¬ AsksWhole t reason key.0 key.1 →
      ((lesser : ConvergeReason) → converge_number_of lesser < converge_number_of reason → AsksWhole t lesser key.0 key.1) → converge_number_of reason ≤ 3 → FindsHinder t (λ k. k ≡ key) (Some (At reason None))
  whole_fails known reason unmet least few =
      found_some known reason None unmet
      (λ lesser any less. whole_or_part lesser (omega (arith, less, few)) (least lesser less) any)
      (λ earlier less. none_before earlier less reason)

  pub nothing_prevails : IsKnown t key.0 key.1 → ¬ ((top : Entry) × IsTop t key.0 key.1 top) → FindsHinder t (λ k. k ≡ key) (Some (At NothingPrevails None))
  nothing_prevails known none = whole_fails known NothingPrevails none lesser (omega arith) where
    lesser : (lesser : ConvergeReason) → converge_number_of lesser < 1 → AsksWhole t lesser key.0 key.1
    lesser NothingPrevails less = absurd (omega (arith, less))
    lesser Concurrent less = absurd (omega (arith, less))
    lesser ContentDiffers less = absurd (omega (arith, less))
    lesser LocalOnly less = tt
    lesser StoreUnclean less = tt
    lesser StoreDiffers less = tt
    lesser SendOnly less = tt
    lesser WouldCopy less = tt

  module _ (known : IsKnown t key.0 key.1) (top : Entry) (is_top : IsTop t key.0 key.1 top) where
    pub not_in_line : ¬ AreInLine (IsAnywhere t key.0 key.1) → FindsHinder t (λ k. k ≡ key) (Some (At Concurrent None))
    not_in_line apart = whole_fails known Concurrent apart lesser (omega arith) where
      lesser : (lesser : ConvergeReason) → converge_number_of lesser < 2 → AsksWhole t lesser key.0 key.1
      lesser NothingPrevails less = (top, is_top)
      lesser Concurrent less = absurd (omega (arith, less))
      lesser ContentDiffers less = absurd (omega (arith, less))
      lesser LocalOnly less = tt
      lesser StoreUnclean less = tt
      lesser StoreDiffers less = tt
      lesser SendOnly less = tt
      lesser WouldCopy less = tt

    module _ (in_line : AreInLine (IsAnywhere t key.0 key.1)) where
      pub differ : ¬ Agree (IsAnywhere t key.0 key.1) → FindsHinder t (λ k. k ≡ key) (Some (At ContentDiffers None))
      differ apart = whole_fails known ContentDiffers apart lesser (omega arith) where
        lesser : (lesser : ConvergeReason) → converge_number_of lesser < 3 → AsksWhole t lesser key.0 key.1
        lesser NothingPrevails less = (top, is_top)
        lesser Concurrent less = in_line
        lesser ContentDiffers less = absurd (omega (arith, less))
        lesser LocalOnly less = tt
        lesser StoreUnclean less = tt
        lesser StoreDiffers less = tt
        lesser SendOnly less = tt
        lesser WouldCopy less = tt

      -- ---- its devices

      module _ (agree : Agree (IsAnywhere t key.0 key.1)) (name_top : Entry) (name : FileName) (shares : List Share)
          (exactly : (reason : ConvergeReason) (device : Device) → IsMetBy name_top name shares reason device ↔ (Shares t device key.0 → AsksThere t reason key.0 key.1 device)) where
        whole : (reason : ConvergeReason) → AsksWhole t reason key.0 key.1
        whole NothingPrevails = (top, is_top)
        whole Concurrent = in_line
        whole ContentDiffers = agree
        whole LocalOnly = tt
        whole StoreUnclean = tt
        whole StoreDiffers = tt
        whole SendOnly = tt
        whole WouldCopy = tt

        at : (reason : ConvergeReason) → ((device : Device) → IsMetBy name_top name shares reason device) → (device : Option Device) → AskedAt reason device
        at reason met None = whole reason
        at reason met (Some device) = (exactly reason device).0 (met device)

        earlier_at : (reason : ConvergeReason) (device : Device) → ((earlier : Device) → earlier < device → IsMetBy name_top name shares reason earlier) → (earlier : Option Device) → device_rank earlier < device_rank (Some device) → AskedAt reason earlier
        earlier_at reason device first None less = whole reason
        earlier_at reason device first (Some earlier) less = (exactly reason earlier).0 (first earlier (omega (arith, less)))

        -- what is found among the devices is found at the name
        pub all_met : FindsUnmet name_top name shares None → FindsHinder t (λ k. k ≡ key) None
        all_met none = found_none (λ reason. at reason (none reason))

        pub one_unmet : (reason : ConvergeReason) (device : Device) → FindsUnmet name_top name shares (Some (reason, device)) → FindsHinder t (λ k. k ≡ key) (Some (At reason (Some device)))
        one_unmet reason device first =
            found_some known reason (Some device)
            (λ asked. first.fails ((exactly reason device).1 asked))
            (λ lesser any less. at lesser (λ other. first.least lesser other less) any)
            (earlier_at reason device first.first)
