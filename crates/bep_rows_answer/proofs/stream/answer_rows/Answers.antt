use Rattle.std.proofs.Common.{◌≡◌, ℕ, List, Option, None, Err, rules, subst, sym}
use Rattle.bep_rows_answer.specs.inner.Answered.{IsNextStreamed, IsStreamedTo}
use Rattle.bep_rows_answer.proofs.Streamed.{grown_more, nothing_yet}
use Rattle.bep_rows_answer.proofs.stream.answer_rows.Goals as goal

pub loop-number-init : goal.loop-number-init
loop-number-init g c =
    subst (λ (bytes : List ℕ). IsStreamedTo g.A.Auditor.tells g.A.Auditor.knows c.args.auditor.now (g.R.Read.remaining c.args.reader.now) (g.R.Read.remaining c.args.reader.now) (g.W.Write.contents c.args.writer.now) (g.W.Write.contents c.args.writer.now) None c.args.auditor.now bytes 1)
    (sym c.new-pending.ensures.items) (nothing_yet g.A.Auditor.tells g.A.Auditor.knows c.args.auditor.now (g.R.Read.remaining c.args.reader.now) (g.W.Write.contents c.args.writer.now))

pub returns-in_err-told-clause-err : goal.returns-in_err-told-clause-err
returns-in_err-told-clause-err g c =
    let so_far = c.loop-number.invariant in
    let made : c.from_residual.result ≡ Err c.in_err-told.field-0.0 = search rules in
    rw made (grown_more (g.W.Write.contents c.args.writer.now) (g.W.Write.contents c.loop-number.writer) (g.W.Write.contents c.answer_next.new.writer) so_far.text so_far.written c.in_err-told.ensures.err)

pub returns-in-Some-clause-ok : goal.returns-in-Some-clause-ok
returns-in-Some-clause-ok g c =
    rw c.in-Some.is at (c.in_ok-told.ensures.ok c.args.auditor.now (g.R.Read.remaining c.args.reader.now) (g.W.Write.contents c.args.writer.now) c.loop-number.invariant)
