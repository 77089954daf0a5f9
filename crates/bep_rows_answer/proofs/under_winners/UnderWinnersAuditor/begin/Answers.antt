use Rattle.std.proofs.Common.{◌∙◌, refl, ap, map}
use Rattle.bep_rows.proofs.ListRead.{none_is_read}
use Rattle.bep_rows_answer.specs.Counts.{no_count}
use Rattle.bep_rows_answer.proofs.under_winners.UnderWinnersAuditor.begin.Goals as goal

pub returns : goal.returns
returns c = record {
  asked = refl;
  listed = none_is_read c.args.self.now.aim c.args.header.now c.new-2.result (c.new-2.ensures.read c.args.self.now.aim);
  last = c.new-2.ensures.last;
  counts = c.new.ensures ∙ c.in_ok-counts.ensures ∙ ap (map no_count) c.folders.ensures.value;
}
