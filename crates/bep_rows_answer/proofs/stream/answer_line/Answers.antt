use Rattle.std.proofs.Common.{List, ℕ, subst}
use Rattle.std.specs.Io.KnownBytes.{Appends}
use Rattle.bep_rows_answer.proofs.stream.answer_line.Goals as goal

pub returns-in_ok-write_all-in-Ok-clause-ok : goal.returns-in_ok-write_all-in-Ok-clause-ok
returns-in_ok-write_all-in-Ok-clause-ok g c = record {
  more = c.in-Ok.text.items;
  taken = c.in-Ok.ensures.ok;
  some = c.in-Ok.ensures.some;
  written = subst (λ (bytes : List ℕ). Appends (g.W.Write.contents c.args.writer.now) (g.W.Write.contents c.write_all.new.writer) bytes) c.as_slice.ensures.value c.in_ok-write_all-in-Ok.ensures.ok;
}
