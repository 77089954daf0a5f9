use Rattle.std.proofs.Common.{List, ℕ, subst}
use Rattle.std.specs.Io.KnownBytes.{Appends}
use Rattle.std.proofs.lemmas.Result.{IfOk-weaker}
use Rattle.bep_document.specs.declared.fault.DocFault.{DocFault}
use Rattle.bep_rows_answer.specs.inner.Answered.{IsAnsweredLast}
use Rattle.bep_rows_answer.specs.Lines.{refusal_line}
use Rattle.bep_rows_answer.proofs.Streamed.{front_streamed, last_answered, line_too_long, more_read}
use Rattle.bep_rows_answer.proofs.LineFacts.{within}
use Rattle.bep_rows_answer.proofs.stream.answer_next.Goals as goal

pub answer_front-requires : goal.answer_front-requires
answer_front-requires g c =
    let found = rw c.in-Line.is at c.in_ok-len.ensures.found in
    within c.read_line.new.pending.items c.in-Line.len found.0

pub returns-in-Line-clause-ok : goal.returns-in-Line-clause-ok
returns-in-Line-clause-ok g c =
    let found = rw c.in-Line.is at c.in_ok-len.ensures.found in
    IfOk-weaker c.answer_front.result _ _
    (λ told front asked unread held so_far. front_streamed _ g.A.Auditor.ends _ asked unread _ _ held _ _ _ _ _ _ _ _ _ c.args.number c.in-Line.len so_far c.in_ok-len.ensures.grown found.0 told front)
    c.answer_front.ensures.ok

pub returns-in_ok-outcome-in-Last-clause-ok : goal.returns-in_ok-outcome-in-Last-clause-ok
returns-in_ok-outcome-in-Last-clause-ok g c = λ asked unread held so_far.
    let found = rw c.in-Last.is at c.in_ok-len.ensures.found in
    let left = g.R.Read.remaining c.read_line.new.reader in
    let now = g.W.Write.contents c.args.writer.now in
    let pending = c.read_line.new.pending.items in
    let read = more_read g.A.Auditor.tells g.A.Auditor.ends g.A.Auditor.knows asked unread (g.R.Read.remaining c.args.reader.now) held now c.args.state.now c.args.auditor.now c.args.pending.now.items c.args.number so_far left pending c.in_ok-len.ensures.grown in
    last_answered g.A.Auditor.tells g.A.Auditor.ends g.A.Auditor.knows asked unread left held now c.args.state.now c.args.auditor.now pending c.args.number read (g.W.Write.contents c.answer_last.new.writer) c.in_ok-outcome-in-Last.outcome found
    (subst (λ (line : List ℕ). IsAnsweredLast g.A.Auditor.tells g.A.Auditor.ends g.A.Auditor.knows line c.args.number c.args.state.now c.args.auditor.now now (g.W.Write.contents c.answer_last.new.writer) c.in_ok-outcome-in-Last.outcome) c.as_slice.ensures.value c.in_ok-outcome-in-Last.ensures.ok)

pub returns-in_ok-refuse-in-TooLong-clause-ok : goal.returns-in_ok-refuse-in-TooLong-clause-ok
returns-in_ok-refuse-in-TooLong-clause-ok g c = λ asked unread held so_far.
    let found = rw c.in-TooLong.is at c.in_ok-len.ensures.found in
    let left = g.R.Read.remaining c.read_line.new.reader in
    let now = g.W.Write.contents c.args.writer.now in
    let pending = c.read_line.new.pending.items in
    let read = more_read g.A.Auditor.tells g.A.Auditor.ends g.A.Auditor.knows asked unread (g.R.Read.remaining c.args.reader.now) held now c.args.state.now c.args.auditor.now c.args.pending.now.items c.args.number so_far left pending c.in_ok-len.ensures.grown in
    line_too_long g.A.Auditor.tells g.A.Auditor.ends g.A.Auditor.knows asked unread left held now c.args.state.now c.args.auditor.now pending c.args.number read (g.W.Write.contents c.refuse.new.writer) found
    (subst (λ (fault : DocFault). Appends now (g.W.Write.contents c.refuse.new.writer) (refusal_line c.args.number fault)) c.nowhere.ensures c.in_ok-refuse-in-TooLong.ensures.ok)
