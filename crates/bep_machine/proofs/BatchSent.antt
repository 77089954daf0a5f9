-- What is announced of an index is a batch of well-formed records.
use Rattle.std.proofs.Common.{◌≤◌, ◌≢◌, ℕ, List, [], ◌∷◌, sym, ap, subst, ◌∙◌, ⊎_elim, arith, le_refl}
use Rattle.std.specs.FinMap.{get}
use Rattle.std.proofs.lemmas.Option.{same_Some}
use Rattle.bep_map.specs.NameMap.{ByName}
use Rattle.bep_record.specs.declared.entry.Entry.{Entry}
use Rattle.bep_index.specs.Listing.{IsRecord}
use Rattle.bep_index.specs.After.{AreRecords, IsAfter}
use Rattle.bep_index.specs.Batch.{Rises, HasNo, NamesDiffer, IsBatch}
use Rattle.bep_index.specs.declared.limits.TheConstants.{MAX_RECORDS}
use Rattle.bep_index.specs.Good.{IsGood, AreGood, AllGood}

rises_from_zero : (low : ℕ) (batch : List Entry) → Rises low batch → Rises 0 batch
rises_from_zero low [] rises = tt
rises_from_zero low (first ∷ more) rises = let above = rises.0 in (omega arith, rises.1, rises.2)

-- a record of a greater number is another one, so it has another name
later_names : (records : ByName Entry) (first : Entry) (low : ℕ) (more : List Entry) → IsRecord records first → first.sequence ≤ low → Rises low more → AreRecords records more → HasNo first.name more
later_names records first low [] is below rises all = tt
later_names records first low (next ∷ more) is below rises all = (apart, later_names records first next.sequence more is (let above = rises.0 in omega arith) rises.2 all.1)
  where
    apart : next.name ≢ first.name
    apart same =
        let one = same_Some next first (sym all.0 ∙ ap (get records) same ∙ is) in
        let number = ap (λ (entry : Entry). entry.sequence) one in
        let above = rises.0 in
        omega arith

pub names_differ : (records : ByName Entry) (low : ℕ) (batch : List Entry) → Rises low batch → AreRecords records batch → NamesDiffer batch
names_differ records low [] rises all = tt
names_differ records low (first ∷ more) rises all =
    (later_names records first first.sequence more all.0 (le_refl first.sequence) rises.2 all.1, names_differ records first.sequence more rises.2 all.1)

pub batch_after : (records : ByName Entry) (low : ℕ) (batch : List Entry) → IsAfter records low MAX_RECORDS batch → IsBatch batch
batch_after records low batch is = record {
  few = is.at_most;
  rises = rises_from_zero low batch is.run.rises;
  names = names_differ records low batch is.run.rises is.run.recorded;
}

pub records_are_good : (records : ByName Entry) (batch : List Entry) → AreGood records → AreRecords records batch → AllGood batch
records_are_good records [] good all entry among = absurd among
records_are_good records (first ∷ more) good all entry among =
    ⊎_elim (λ here. subst (λ e. IsGood e) (sym here) (good first.name first all.0)) (λ later. records_are_good records more good all.1 entry later) among
