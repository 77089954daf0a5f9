-- The walk over a cut's names, with all that fails at those that are past.
use Rattle.std.proofs.Common.{◌≡◌, ◌+◌, ◌<◌, ℕ, List, [], drop, length, Some, None, refl, sym, subst, ⊎_elim, arith}
use Rattle.bep_tables.specs.declared.cut.CutParts.{CutParts}
use Rattle.bep_tables.specs.declared.table.entry.TableEntry.{TableEntry}
use Rattle.bep_tables.specs.Cut.{IsCut, tables_of}
use Rattle.bep_tables.specs.Listed.{IsGrouped, cut_listed}
use Rattle.bep_tables.specs.Said.{EntriesAreHeld, HoldersShare}
use Rattle.bep_audit.specs.inner.Walk.{key_in, next_key, count_at}
use Rattle.bep_audit.proofs.GroupWalk as groups
use Rattle.bep_audit.proofs.GroupWalk.{Stands, same_or_not, stands_at_first, unlisted_is_unknown, stands_afterwards, table_left}
use Rattle.bep_audit.proofs.NameWalk.{Key, IsNext, Remains, none_left, was_left, not_left, left_or_here}
use Rattle.bep_gather.specs.Adding.{AddsFailing}
use Rattle.bep_gather.specs.AddFacts.{adds_none, adds_both, adds_as}
use Rattle.bep_converge_check.specs.Hindrance.{Hinder}
use Rattle.bep_converge_check.specs.Hindrances.{IsMetThere}
use Rattle.bep_converge_check.specs.inner.Says.{SaysName}

module _ (cut : CutParts) where
  -- what is asked at the names that aren't left
  abbrev Past : List TableEntry → Hinder → Type 0
  Past entries one = (¬ Remains entries [] (key_in one.place)) → IsMetThere (tables_of cut) one

  -- these entries are left, and what fails at the other names is there
  pub record Gathered (entries : List TableEntry) (found : List Hinder) : Type 0 where
    pub stands : Stands cut [] entries []
    pub adds : AddsFailing (Past entries) [] found

  -- it starts
  pub gather_starts : EntriesAreHeld → HoldersShare → IsCut cut → (table : List TableEntry) → IsGrouped (cut_listed cut) table → (found : List Hinder) → found ≡ [] → Gathered table found
  gather_starts held share is_cut table grouped found is = record {
    stands = stands_at_first cut [] table grouped tt;
    adds = subst (AddsFailing (Past table) []) (sym is)
        (adds_none (Past table) [] (λ one none known. absurd (unlisted_is_unknown cut [] table grouped held share is_cut (key_in one.place) none known)));
  }

  -- it ends
  pub gather_ends : (entries : List TableEntry) (found : List Hinder) → Gathered entries found → next_key entries [] ≡ None → AddsFailing (IsMetThere (tables_of cut)) [] found
  gather_ends entries found gathered none =
      adds_as (Past entries) (IsMetThere (tables_of cut)) [] found (λ one. (λ asked. asked (none_left entries [] none (key_in one.place)), λ asked _. asked)) gathered.adds

  module _ (entries : List TableEntry) (found : List Hinder) (gathered : Gathered entries found) (key : Key) (is : next_key entries [] ≡ Some key) where
    here_next : IsNext entries [] key
    here_next = groups.next cut [] entries [] gathered.stands key is

    abbrev Rest : List TableEntry
    Rest = drop (count_at key entries) entries

    -- it goes on
    gather_goes_on : (now : List Hinder) → AddsFailing (SaysName (tables_of cut) key) found now → Gathered Rest now
    gather_goes_on now here = record {
      stands = stands_afterwards cut [] entries [] gathered.stands key is;
      adds = adds_as (λ one. Past entries one × SaysName (tables_of cut) key one) (Past Rest) [] now
          (λ one. (
            λ both not.
                ⊎_elim
                (λ same. both.1 same)
                (λ apart. both.0 (λ remains. ⊎_elim (λ left. not left) (λ same. apart same) (left_or_here entries [] key gathered.stands.order tt here_next (key_in one.place) remains)))
                (same_or_not (key_in one.place) key),
            λ asked. (
              λ gone. asked (λ left. gone (was_left entries [] key gathered.stands.order tt here_next (key_in one.place) left)),
              λ same. asked (λ left. not_left entries [] key gathered.stands.order tt here_next (subst (λ (k : Key). Remains Rest [] k) same left)),
            ),
          ))
          (adds_both (Past entries) (SaysName (tables_of cut) key) [] found now gathered.adds here);
    }

-- ---- the walk by its places

module _ (cut : CutParts) (table : List TableEntry) (at : ℕ) (found : List Hinder) (gathered : Gathered cut (drop at table) found) (key : Key) (is : next_key (drop at table) [] ≡ Some key) (n : ℕ) (held : n ≡ count_at key (drop at table)) where
  pub gather_goes_on_at : (now : List Hinder) → AddsFailing (SaysName (tables_of cut) key) found now → Gathered cut (drop (at + n) table) now
  gather_goes_on_at now here =
      subst (λ (entries : List TableEntry). Gathered cut entries now) (sym (table_left cut [] table at 0 gathered.stands key is n 0 held refl))
      (gather_goes_on cut (drop at table) found gathered key is now here)

  pub gather_shorter_at : length (drop (at + n) table) < length (drop at table)
  gather_shorter_at = let less = groups.smaller_at cut [] table at 0 gathered.stands key is n 0 held refl in omega (arith, less)
