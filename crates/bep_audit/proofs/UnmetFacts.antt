-- A walk over the devices of a folder, which rise, for the first that doesn't meet what is asked.
use Rattle.std.proofs.Common.{◌≡◌, ◌<◌, List, Some, refl, sym, ⊎_elim, arith}
use Rattle.std.specs.declared.cmp.Ordering.TheVariants.{Less}
use Rattle.std.specs.Ordering.{nat_cmp}
use Rattle.std.specs.List.Sorted.{IsStrictlyIncreasing}
use Rattle.std.proofs.lemmas.Bool.{cases_eq}
use Rattle.std.proofs.lemmas.Cmp.{ranked}
use Rattle.std.proofs.lemmas.Map.Keys.{sorted_from_strictly_increasing}
use Rattle.bep_model.specs.Tables.{Device}
use Rattle.bep_tables.specs.declared.share.Share.{Share}
use Rattle.bep_tables.specs.Cut.{devices_of}
use Rattle.bep_audit.specs.inner.Search.{FindsFirst}
use Rattle.bep_audit.proofs.WalkFacts.{IsBefore, AreInOrder, in_order_by_key}

module _ (Meets : Share → Type 0) where
  -- the share meets what is asked, if it is the device's
  abbrev pub MeetsAs : Share → Device → Type 0
  MeetsAs share device = share.device ≡ device → Meets share

  -- where one device fails, a later one isn't before it
  lesser_is_before : (one other : Share) → nat_cmp one.device other.device ≡ Less → IsBefore nat_cmp MeetsAs one other
  lesser_is_before one other less first x fails before same =
      let lower : one.device < other.device = ranked one.device other.device Less (sym less) in
      let earlier : x < first = ranked x first Less (sym before) in
      ⊎_elim
      (λ is. absurd (omega (arith, is, same)))
      (λ differs. absurd (fails (λ is. absurd (differs is))))
      (cases_eq one.device first)

  pub devices_in_order : (shares : List Share) → IsStrictlyIncreasing (devices_of shares) → AreInOrder nat_cmp MeetsAs shares
  devices_in_order shares rise =
      in_order_by_key nat_cmp MeetsAs nat_cmp (λ (share : Share). share.device) lesser_is_before shares (sorted_from_strictly_increasing (devices_of shares) rise)

  pub meets : (share : Share) → Meets share → (device : Device) → MeetsAs share device
  meets share asked device same = asked

  pub fails_first : (share : Share) → ¬ Meets share → FindsFirst nat_cmp (MeetsAs share) (Some share.device)
  fails_first share unmet = record {
    fails = λ meets. unmet (meets refl);
    before = λ device before same.
        let earlier : device < share.device = ranked device share.device Less (sym before) in
        absurd (omega (arith, same));
  }
