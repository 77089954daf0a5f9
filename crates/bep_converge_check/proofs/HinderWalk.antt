-- The walk over a cut's names, with the least reason of those that are past.
use Rattle.std.proofs.Common.{◌≡◌, ◌+◌, ◌<◌, ℕ, cond, List, [], drop, length, Option, Some, None, refl, sym, ap, subst, ◌∙◌, ⊎_elim, arith}
use Rattle.std.specs.Prelude.{⊤}
use Rattle.std.specs.Ordering.{ordering_then}
use Rattle.std.proofs.lemmas.Cmp.{nat_cmp_total, tied_itself}
use Rattle.bep_model.specs.Tables.{Tables}
use Rattle.bep_model.specs.Reasons.{place_cmp}
use Rattle.bep_tables.specs.declared.cut.CutParts.{CutParts}
use Rattle.bep_tables.specs.declared.table.entry.TableEntry.{TableEntry}
use Rattle.bep_tables.specs.Cut.{IsCut, tables_of}
use Rattle.bep_tables.specs.Listed.{IsGrouped, cut_listed}
use Rattle.bep_tables.specs.Said.{EntriesAreHeld, HoldersShare}
use Rattle.bep_audit.specs.inner.Search.{lesser}
use Rattle.bep_audit.specs.inner.Walk.{key_in, next_key, count_at}
use Rattle.bep_audit.proofs.SearchFacts.{finds_as, lesser_finds}
use Rattle.bep_audit.proofs.FailingRow.{less_by_order}
use Rattle.bep_audit.proofs.GroupWalk as groups
use Rattle.bep_audit.proofs.GroupWalk.{Stands, same_or_not, stands_at_first, unlisted_is_unknown, stands_afterwards, table_left}
use Rattle.bep_audit.proofs.NameWalk.{Key, IsNext, Remains, none_left, was_left, not_left, left_or_here}
use Rattle.bep_converge.specs.Prevails.{AllPrevail}
use Rattle.bep_converge.specs.ConvergeReasons.{converge_number_of, AsksToConverge}
use Rattle.bep_converge.specs.ConvergeVerdict.{IsFirstHindrance}
use Rattle.bep_converge.specs.Laws.{ConvergingIsFaultless}
use Rattle.bep_converge_check.specs.Hindrance.{Hinder, hinder_cmp, precedes}
use Rattle.bep_converge_check.specs.inner.HindranceOrder.{hinder_total}
use Rattle.bep_converge_check.specs.inner.Found.{FindsHinder}
use Rattle.bep_converge_check.proofs.AtName.{unknown_found}

-- the lesser of two, told by a test
lesser_by_test : (least here : Option Hinder) → lesser hinder_cmp least here ≡ cond (precedes here least) here least
lesser_by_test None None = refl
lesser_by_test None (Some here) = refl
lesser_by_test (Some least) None = refl
lesser_by_test (Some least) (Some here) = refl

module _ (cut : CutParts) where
  -- these entries are left, and this is the least at the other names
  pub record Walked (entries : List TableEntry) (least : Option Hinder) : Type 0 where
    pub stands : Stands cut [] entries []
    pub finds : FindsHinder (tables_of cut) (λ key. ¬ Remains entries [] key) least

  -- it starts
  pub hinder_starts : EntriesAreHeld → HoldersShare → IsCut cut → (table : List TableEntry) → IsGrouped (cut_listed cut) table → Walked table None
  hinder_starts held share is_cut table grouped = record {
    stands = stands_at_first cut [] table grouped tt;
    finds = λ one none. unknown_found (tables_of cut) (key_in one.place) (unlisted_is_unknown cut [] table grouped held share is_cut (key_in one.place) none) one refl;
  }

  -- it ends
  pub hinder_ends : (entries : List TableEntry) (least : Option Hinder) → Walked entries least → next_key entries [] ≡ None → FindsHinder (tables_of cut) (λ _. ⊤) least
  hinder_ends entries least walked none =
      finds_as hinder_cmp (λ one. (¬ Remains entries [] (key_in one.place)) → AsksToConverge (tables_of cut) one.reason one.place) (λ one. ⊤ → AsksToConverge (tables_of cut) one.reason one.place)
      (λ one asked _. asked (none_left entries [] none (key_in one.place)))
      (λ one asked _. asked tt)
      least walked.finds

  module _ (entries : List TableEntry) (least : Option Hinder) (walked : Walked entries least) (key : Key) (is : next_key entries [] ≡ Some key) where
    here_next : IsNext entries [] key
    here_next = groups.next cut [] entries [] walked.stands key is

    abbrev Left : Key → Type 0
    Left other = Remains (drop (count_at key entries) entries) [] other

    Asked : Hinder → Type 0
    Asked one = AsksToConverge (tables_of cut) one.reason one.place

    both_found : (here : Option Hinder) → FindsHinder (tables_of cut) (λ k. k ≡ key) here → FindsHinder (tables_of cut) (λ other. ¬ Left other) (lesser hinder_cmp least here)
    unfolding Asked
    both_found here found =
        finds_as hinder_cmp
        (λ one. ((¬ Remains entries [] (key_in one.place)) → Asked one) × (key_in one.place ≡ key → Asked one))
        (λ one. (¬ Left (key_in one.place)) → Asked one)
        (λ one both not.
        ⊎_elim
        (λ same. both.1 same)
        (λ apart. both.0 (λ remains. ⊎_elim (λ left. not left) (λ same. apart same) (left_or_here entries [] key walked.stands.order tt here_next (key_in one.place) remains)))
        (same_or_not (key_in one.place) key))
        (λ one asked. (
          λ gone. asked (λ left. gone (was_left entries [] key walked.stands.order tt here_next (key_in one.place) left)),
          λ same. asked (λ left. not_left entries [] key walked.stands.order tt here_next (subst Left same left)),
        ))
        (lesser hinder_cmp least here)
        (lesser_finds hinder_cmp hinder_total
        (λ one. (¬ Remains entries [] (key_in one.place)) → Asked one)
        (λ one. key_in one.place ≡ key → Asked one)
        least here walked.finds found)

    -- it goes on
    hinder_goes_on : (here : Option Hinder) → FindsHinder (tables_of cut) (λ k. k ≡ key) here → (now : Option Hinder) → now ≡ cond (precedes here least) here least → Walked (drop (count_at key entries) entries) now
    hinder_goes_on here found now chosen = record {
      stands = stands_afterwards cut [] entries [] walked.stands key is;
      finds = subst (FindsHinder (tables_of cut) (λ other. ¬ Left other)) (lesser_by_test least here ∙ sym chosen) (both_found here found);
    }

-- ---- the walk by its places

module _ (cut : CutParts) (table : List TableEntry) (at : ℕ) (least : Option Hinder) (walked : Walked cut (drop at table) least) (key : Key) (is : next_key (drop at table) [] ≡ Some key) (n : ℕ) (held : n ≡ count_at key (drop at table)) where
  pub goes_on_at : (here : Option Hinder) → FindsHinder (tables_of cut) (λ k. k ≡ key) here → (now : Option Hinder) → now ≡ cond (precedes here least) here least → Walked cut (drop (at + n) table) now
  goes_on_at here found now chosen =
      subst (λ (entries : List TableEntry). Walked cut entries now) (sym (table_left cut [] table at 0 walked.stands key is n 0 held refl))
      (hinder_goes_on cut (drop at table) least walked key is here found now chosen)

  pub shorter_at : length (drop (at + n) table) < length (drop at table)
  shorter_at = let less = groups.smaller_at cut [] table at 0 walked.stands key is n 0 held refl in omega (arith, less)

-- ---- the verdict

module _ (t : Tables) where
  pub least_is_first : (one : Hinder) → FindsHinder t (λ _. ⊤) (Some one) → IsFirstHindrance t one.reason one.place
  least_is_first one first = record {
    fails = λ asked. first.fails (λ _. asked);
    least = λ reason any less.
        first.before (record { reason = reason; place = any })
        (ap (λ o. ordering_then o (place_cmp any one.place)) (less_by_order (converge_number_of reason) (converge_number_of one.reason) less)) tt;
    first = λ earlier less.
        first.before (record { reason = one.reason; place = earlier })
        (ap (λ o. ordering_then o (place_cmp earlier one.place)) (tied_itself nat_cmp_total (converge_number_of one.reason)) ∙ less) tt;
  }

  pub none_hinders : ConvergingIsFaultless → FindsHinder t (λ _. ⊤) None → AllPrevail t
  none_hinders faultless none = (faultless t).1 (λ reason place. none (record { reason = reason; place = place }) tt)

  pub hindered_not_all : ConvergingIsFaultless → (one : Hinder) → FindsHinder t (λ _. ⊤) (Some one) → ¬ AllPrevail t
  hindered_not_all faultless one first all = first.fails (λ _. (faultless t).0 all one.reason one.place)
