use Rattle.bep_rows_answer.specs.inner.Answered.{IsStreamedTo}
use Rattle.bep_rows_answer.proofs.stream.answer_rows.Given as goal

-- the lines before this one were read and answered
abbrev pub invariant-loop-number : goal.invariant-loop-number
invariant-loop-number g l =
    IsStreamedTo g.A.Auditor.tells g.A.Auditor.knows l.fn.auditor (g.R.Read.remaining l.fn.reader) (g.R.Read.remaining l.reader) (g.W.Write.contents l.fn.writer) (g.W.Write.contents l.writer) l.state l.auditor l.pending.items l.number
