-- What is known under the winners once one more row was given, and after all.
use Rattle.std.proofs.Common.{◌≡◌, ◌∙◌, List, [], ◌∷◌, ◌++◌, map, Option, None, Some, refl, sym, ap, subst}
use Rattle.bep_model.specs.Tables.{Tables}
use Rattle.bep_parts.specs.Laws.{DocumentsSayOnly}
use Rattle.bep_parts.specs.Parts.{only}
use Rattle.bep_row.specs.Row.{cut_with}
use Rattle.bep_row.specs.declared.row.NameRow.{NameRow}
use Rattle.bep_rows.specs.AllRows.{key_of_row}
use Rattle.bep_rows.specs.Names.{IsAbove, Key, is_name}
use Rattle.bep_rows.specs.Standing.{IsStanding}
use Rattle.bep_rows.specs.Stream.{IsReadTo}
use Rattle.bep_rows.specs.declared.aim.Aim.{Aim}
use Rattle.bep_rows.specs.declared.standing.Standing.{Standing}
use Rattle.bep_rows.specs.declared.stream.Stream.{Stream}
use Rattle.bep_rows.proofs.ListRead.{one_more_is_read}
use Rattle.bep_tables.specs.Cut.{tables_of}
use Rattle.bep_tables.specs.declared.cut.CutParts.{CutParts}
use Rattle.bep_rows_answer.specs.Auditor.{IsNextRow, last_of}
use Rattle.bep_rows_answer.specs.Counts.{counted, counts_after, no_count}
use Rattle.bep_rows_answer.specs.UnderWinners.{KnowsStandings, StandsFor}
use Rattle.bep_rows_answer.specs.declared.counts.FolderCount.{FolderCount}
use Rattle.bep_rows_answer.specs.declared.under_winners.UnderWinners.{UnderWinners}
use Rattle.bep_rows_answer.proofs.Alone.{alone_says}
use Rattle.bep_rows_answer.proofs.CountFacts.{counts_more}
use Rattle.bep_rows_answer.proofs.MoreRows.{last_more}

module _ (aim : Aim) (header : CutParts) (rows : List NameRow) (row : NameRow) (next : IsNextRow rows row) (here : Standing) where
  -- what is answered of the cut that has the row's name alone
  pub stands_here : (asked : Aim) → DocumentsSayOnly → asked ≡ aim → IsStanding asked (tables_of (cut_with header row)) here → StandsFor aim header row here
  stands_here asked says same is whole of =
      subst (λ (one : Aim). IsStanding one (only (is_name (key_of_row row)) (tables_of whole)) here) same
      (alone_says says header row (cut_with header row) refl (λ (t : Tables). IsStanding asked t here) is whole of)

  module _ (key : Key) (it_is : key ≡ key_of_row row) (stands : StandsFor aim header row here) (old new : UnderWinners) (known : KnowsStandings aim header rows old) where
    -- what a stream promises that took this
    abbrev TakesHere : Type 0
    TakesHere = (t : Tables) (keys : List Key) → IsReadTo aim t keys old.stream → IsStanding aim (only (is_name key) t) here → IsReadTo aim t (key ∷ keys) new.stream

    pub above_old : IsAbove key old.stream.last
    above_old =
        subst (λ (k : Key). IsAbove k old.stream.last) (sym it_is)
        (subst (λ (l : Option Key). IsAbove (key_of_row row) l) (sym known.last) next)

    pub one_more_known : new.aim ≡ old.aim → new.stream.last ≡ Some key → TakesHere → new.counts ≡ map (counted row) old.counts → KnowsStandings aim header (rows ++ row ∷ []) new
    one_more_known same last takes counts = record {
      asked = same ∙ known.asked;
      listed =
          one_more_is_read aim header rows row old.stream new.stream known.listed
          (subst (λ (k : Key). IsAbove k old.stream.last) it_is above_old)
          (last ∙ ap (λ (k : Key). Some k) it_is)
          (λ whole of keys read.
          subst (λ (k : Key). IsReadTo aim (tables_of whole) (k ∷ keys) new.stream) it_is
          (takes (tables_of whole) keys read (subst (λ (k : Key). IsStanding aim (only (is_name k) (tables_of whole)) here) (sym it_is) (stands whole of))));
      last = last ∙ ap (λ (k : Key). Some k) it_is ∙ sym (last_more None rows row);
      counts = counts ∙ ap (map (counted row)) known.counts ∙ sym (counts_more rows row (map no_count header.folders));
    }
