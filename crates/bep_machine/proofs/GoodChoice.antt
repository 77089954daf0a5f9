-- A record that a sound replica's device chooses is good, valid and stands under its name: it is the own one, or one of a
-- view.
use Rattle.std.proofs.Common.{◌≡◌, false, Option, Some, None, unwrap_or, refl, ⊎_elim}
use Rattle.std.specs.Ordering.{nat_cmp}
use Rattle.std.specs.Cmp.Lexicographic.{slice_cmp}
use Rattle.std.specs.FinMap.{get}
use Rattle.bep_facts.specs.Maps.{nothing_in_empty}
use Rattle.bep_record.specs.declared.entry.Entry.{Entry}
use Rattle.bep_index.specs.Listing.{Listing}
use Rattle.bep_index.specs.View.{cleared}
use Rattle.bep_model.specs.Tables.{Device, FileName}
use Rattle.bep_machine.specs.Replica.{Replica, own_at, viewed_at, Chooses}
use Rattle.bep_machine.specs.Sound.{IsSoundReplica}
use Rattle.bep_machine.proofs.ChoiceFacts.{chosen_is_known, chosen_is_valid}
use Rattle.bep_machine.proofs.SoundMaps.{of_any}
use Rattle.bep_machine.proofs.SoundChanges.{IsGoodAt, own_is_good}

pub viewed_is_good : (device : Device) (replica : Replica) (other : Device) (name : FileName) (entry : Entry) → IsSoundReplica device replica →
    viewed_at replica other name ≡ Some entry → IsGoodAt name entry
viewed_is_good device replica other name entry sound is = cases (get replica.views other) refl is where
  cases : (view : Option Listing) → get replica.views other ≡ view → get (unwrap_or view (cleared 0)).records name ≡ Some entry → IsGoodAt name entry
  cases None none found = nothing_in_empty (slice_cmp nat_cmp) name entry found
  cases (Some view) some found =
      let known = sound.views other view some in
      record { good = known.good name entry found; named = (known.view_of_index.numbered name entry found).0 }

-- a chosen record
pub record IsGoodChoice (name : FileName) (entry : Entry) : Type 0 where
  pub good : IsGoodAt name entry
  pub valid : entry.invalid ≡ false

pub chosen_is_good : (device : Device) (replica : Replica) (name : FileName) (entry : Entry) → IsSoundReplica device replica →
    Chooses device replica name entry → IsGoodChoice name entry
chosen_is_good device replica name entry sound chooses = record {
  good =
      ⊎_elim
      (λ own. of_any (IsGoodAt name) (own_at replica name) entry (own_is_good device replica name sound) own)
      (λ viewed. viewed_is_good device replica viewed.0 name entry sound viewed.1)
      (chosen_is_known device replica name entry chooses);
  valid = chosen_is_valid device replica name entry chooses;
}
