use Rattle.std.proofs.Common.{◌∙◌, ◌++◌, List, ap, map}
use Rattle.std.specs.List.{flat_map}
use Rattle.bep_rows.proofs.ListRead.{whole_list_is_read}
use Rattle.bep_rows.specs.declared.aim.Aim.{Aim}
use Rattle.bep_rows_answer.specs.Counts.{count_line, counts_after, no_count}
use Rattle.bep_rows_answer.specs.Lines.{verdict_line_of}
use Rattle.bep_rows_answer.specs.Outcome.{outcome_of}
use Rattle.bep_rows_answer.specs.declared.counts.FolderCount.{FolderCount}
use Rattle.bep_rows_answer.proofs.under_winners.UnderWinnersAuditor.end.Goals as goal

pub returns : goal.returns
returns c = λ asked header rows quiet known.
    let standing = c.args.self.now.stream.standing in
    record {
      standing = standing;
      judged =
          whole_list_is_read asked.aim header (record { settled = c.verdict_by_parts.ensures.settled; firm = c.verdict_by_parts.ensures.firm }) c.rows_make_a_cut.ensures.rows c.rows_make_a_cut.ensures.names
          quiet rows c.args.self.now.stream known.listed;
      told = c.of.ensures ∙ ap outcome_of c.standing.ensures.value;
      written =
          c.in_ok-text.ensures
          ∙ ap (λ (counts : List FolderCount). verdict_line_of c.args.self.now.aim standing ++ flat_map count_line counts) known.counts
          ∙ ap (λ (aim : Aim). verdict_line_of aim standing ++ flat_map count_line (counts_after rows (map no_count header.folders))) known.asked;
    }
