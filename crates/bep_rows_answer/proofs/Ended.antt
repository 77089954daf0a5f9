-- A stream whose answer is that its cut is what was asked has a cut of which that holds.
use Rattle.std.proofs.Common.{◌≡◌, ◌∙◌, inl, inr, ℕ, List, Option, sym, subst}
use Rattle.std.specs.Prelude.{Result, Ok, MatchResult}
use Rattle.bep_model.specs.Tables.{Tables}
use Rattle.bep_report.specs.declared.error.ReportError.{ReportError}
use Rattle.bep_row.specs.declared.row.NameRow.{NameRow}
use Rattle.bep_rows.specs.AllRows.{cut_by}
use Rattle.bep_tables.specs.Cut.{tables_of}
use Rattle.bep_tables.specs.declared.cut.CutParts.{CutParts}
use Rattle.bep_rows_answer.specs.Stream.{EndsRows, IsAnswered, IsGrownText, IsWholeAnswer, TellsRow}
use Rattle.bep_rows_answer.specs.Told.{IsRowsTold, SaysRows, TellsRows}
use Rattle.bep_rows_answer.specs.declared.outcome.RowsOutcome.{RowsOutcome}
use Rattle.bep_rows_answer.specs.declared.outcome.RowsOutcome.TheVariants.{Met}

module _ (Stays : Tables → Type 0) (Tells : TellsRow) (Ends : EndsRows) (stays : (header : CutParts) (rows : List NameRow) (text : List ℕ) → Ends header rows Met text → Stays (tables_of (cut_by header rows))) where
  whole_tells : (lines : List (List ℕ)) (text : List ℕ) → IsWholeAnswer Tells Ends lines Met text → TellsRows Stays lines
  whole_tells lines text whole = record {
    version = whole.version;
    header = whole.header;
    rows = whole.rows;
    heading = whole.answered.heading;
    row_lines = whole.answered.row_lines;
    are = whole.answered.are;
    says = whole.answered.says;
    read = whole.answered.read;
    stays = stays whole.header whole.rows whole.last whole.ends;
  }

  met_says : (unread left held now : Option (List ℕ)) → IsAnswered Tells Ends unread left held now Met → SaysRows Stays unread left
  met_says unread left held now answered = elim answered.says [
    | inl ended ↦ record {
      bytes = answered.bytes;
      taken = answered.taken;
      at_end = ended.at_end;
      lines = answered.lines;
      rest = answered.rest;
      are = answered.are;
      no_end = ended.no_end;
      tells = whole_tells _ answered.text ended.answer;
    }
    | inr refused ↦ let other = refused.told in absurd (cc)
  ]

  -- by a status that is 0 for no other answer
  pub told_says : (status_after : Result RowsOutcome ReportError → ℕ) → ((answer : Result RowsOutcome ReportError) → status_after answer ≡ 0 → answer ≡ Ok Met) → (unread left held now : Option (List ℕ)) (status : ℕ) →
      IsRowsTold Tells Ends status_after unread left held now status → status ≡ 0 → SaysRows Stays unread left
  told_says status_after zero_is_met unread left held now status told zero =
      met_says unread left held now
      (subst (λ (answer : Result RowsOutcome ReportError). MatchResult answer (IsAnswered Tells Ends unread left held now) (λ _. IsGrownText held now)) (zero_is_met told.answer (sym told.told ∙ zero)) told.done)
