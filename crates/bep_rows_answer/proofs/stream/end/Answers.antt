use Rattle.std.proofs.Common.{List, ℕ, subst}
use Rattle.std.specs.Io.KnownBytes.{Appends}
use Rattle.bep_rows_answer.proofs.SoFar.{whole_answer}
use Rattle.bep_rows_answer.proofs.stream.end.Goals as goal

pub returns-clause-ok : goal.returns-clause-ok
returns-clause-ok g c =
    let more = c.in_ok-outcome-in-Some.text.items in
    record {
      more = more;
      written = subst (λ (bytes : List ℕ). Appends (g.W.Write.contents c.args.writer.now) (g.W.Write.contents c.write_all.new.writer) bytes) c.as_slice.ensures.value c.in_ok-write_all-in-Some.ensures.ok;
      says = λ asked lines text given.
          whole_answer g.A.Auditor.tells g.A.Auditor.ends g.A.Auditor.knows asked c.args.auditor.now c.in-Some.field-0 lines text more c.in_ok-outcome-in-Some.outcome (rw c.in-Some.is at given)
          (c.in_ok-outcome-in-Some.ensures asked);
    }
