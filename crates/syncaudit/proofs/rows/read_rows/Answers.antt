use Rattle.std.proofs.Common.{sym, subst}
use Rattle.syncaudit.specs.Status.{IsReadingRows}
use Rattle.syncaudit.proofs.rows.read_rows.Goals as goal

pub returns-in-First-clause-told : goal.returns-in-First-clause-told
returns-in-First-clause-told g c =
    subst (λ told. IsReadingRows c.args.goal told (g.R.Read.remaining c.args.reader.now) (g.R.Read.remaining c.judge_rows.new.reader) (g.W.Write.contents c.args.writer.now) (g.W.Write.contents c.judge_rows.new.writer) (g.H.Person.heard c.args.person.now) (g.H.Person.heard c.judge_rows.new.person) c.judge_rows.result) (sym c.in-First.is) c.judge_rows.ensures.told

pub returns-in-All-clause-told : goal.returns-in-All-clause-told
returns-in-All-clause-told g c =
    subst (λ told. IsReadingRows c.args.goal told (g.R.Read.remaining c.args.reader.now) (g.R.Read.remaining c.explain_rows.new.reader) (g.W.Write.contents c.args.writer.now) (g.W.Write.contents c.explain_rows.new.writer) (g.H.Person.heard c.args.person.now) (g.H.Person.heard c.explain_rows.new.person) c.explain_rows.result) (sym c.in-All.is) c.explain_rows.ensures.told
