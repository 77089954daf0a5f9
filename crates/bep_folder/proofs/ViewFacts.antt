-- A device's view that was out of its map while it was changed.
use Rattle.std.proofs.Common.{◌≡◌, ◌∙◌, List, Option, Some, Result, Ok, Err, OnOk, OnErr, sym, ap}
use Rattle.std.specs.Prelude.{unwrap_or}
use Rattle.std.specs.FinMap.{get, insert}
use Rattle.bep_record.specs.declared.entry.Entry.{Entry}
use Rattle.bep_index.specs.Listing.{Listing}
use Rattle.bep_index.specs.View.{cleared, amended}
use Rattle.bep_model.specs.Tables.{Device}
use Rattle.bep_machine.specs.Replica.{ByDevice}
use Rattle.bep_folder.specs.Views.{known_view}
use Rattle.bep_folder.proofs.DeviceMapFacts.{device_given_twice, device_given_back}

module _ {A E : Type 0} (views out : ByDevice Listing) (device : Device) (empty view : Listing) (is_out : out ≡ insert views device empty) (had : get views device ≡ Some view) where
  -- with the batch it comes back in place of the one that was there
  pub amended_back : (result : Result A E) (after : ByDevice Listing) (batch : List Entry) → OnOk result (after ≡ insert out device (amended view batch)) → OnOk result (after ≡ insert views device (amended (known_view views device) batch))
  amended_back (Ok _) after batch is =
      is ∙ ap (λ (m : ByDevice Listing). insert m device (amended view batch)) is_out
      ∙ device_given_twice views device empty (amended view batch)
      ∙ ap (λ (known : Option Listing). insert views device (amended (unwrap_or known (cleared 0)) batch)) (sym had)
  amended_back (Err _) after batch is = tt

  -- and as it was, all is as before
  pub given_back : (result : Result A E) (after : ByDevice Listing) → OnErr result (after ≡ insert out device view) → OnErr result (after ≡ views)
  given_back (Ok _) after is = tt
  given_back (Err _) after is =
      is ∙ ap (λ (m : ByDevice Listing). insert m device view) is_out ∙ device_given_back views device empty view had
