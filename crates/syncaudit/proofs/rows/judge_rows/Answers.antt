use Rattle.std.proofs.Common.{sym, subst}
use Rattle.syncaudit.specs.Status.{IsJudgingRows}
use Rattle.syncaudit.proofs.rows.judge_rows.Goals as goal

pub returns-in-Settled-clause-told : goal.returns-in-Settled-clause-told
returns-in-Settled-clause-told g c =
    subst (λ goal. IsJudgingRows goal (g.R.Read.remaining c.args.reader.now) (g.R.Read.remaining c.rows_and_tell.new.reader) (g.W.Write.contents c.args.writer.now) (g.W.Write.contents c.rows_and_tell.new.writer) (g.H.Person.heard c.args.person.now) (g.H.Person.heard c.rows_and_tell.new.person) c.rows_and_tell.result) (sym c.in-Settled.is) (c.rows_and_tell.ensures.told, c.rows_and_tell.ensures.heard)

pub returns-in-Firm-clause-told : goal.returns-in-Firm-clause-told
returns-in-Firm-clause-told g c =
    subst (λ goal. IsJudgingRows goal (g.R.Read.remaining c.args.reader.now) (g.R.Read.remaining c.firm_rows_and_tell.new.reader) (g.W.Write.contents c.args.writer.now) (g.W.Write.contents c.firm_rows_and_tell.new.writer) (g.H.Person.heard c.args.person.now) (g.H.Person.heard c.firm_rows_and_tell.new.person) c.firm_rows_and_tell.result) (sym c.in-Firm.is) (c.firm_rows_and_tell.ensures.told, c.firm_rows_and_tell.ensures.heard)

pub returns-in-Converging-clause-told : goal.returns-in-Converging-clause-told
returns-in-Converging-clause-told g c =
    subst (λ goal. IsJudgingRows goal (g.R.Read.remaining c.args.reader.now) (g.R.Read.remaining c.converge_rows_and_tell.new.reader) (g.W.Write.contents c.args.writer.now) (g.W.Write.contents c.converge_rows_and_tell.new.writer) (g.H.Person.heard c.args.person.now) (g.H.Person.heard c.converge_rows_and_tell.new.person) c.converge_rows_and_tell.result) (sym c.in-Converging.is) (c.converge_rows_and_tell.ensures.told, c.converge_rows_and_tell.ensures.heard)
