use Rattle.std.proofs.Common.{sym, subst}
use Rattle.syncaudit.specs.Status.{IsEnding}
use Rattle.syncaudit.proofs.run.make_steps.Goals as goal

pub returns-in-Report-clause-told : goal.returns-in-Report-clause-told
returns-in-Report-clause-told g c =
    subst (λ ending. IsEnding ending (g.R.Read.remaining c.args.reader.now) (g.R.Read.remaining c.run_and_tell.new.reader) (g.W.Write.contents c.args.writer.now) (g.W.Write.contents c.run_and_tell.new.writer) (g.H.Person.heard c.args.person.now) (g.H.Person.heard c.run_and_tell.new.person) c.run_and_tell.result) (sym c.in-Report.is) (c.run_and_tell.ensures.told, c.run_and_tell.ensures.heard)

pub returns-in-Document-clause-told : goal.returns-in-Document-clause-told
returns-in-Document-clause-told g c =
    subst (λ ending. IsEnding ending (g.R.Read.remaining c.args.reader.now) (g.R.Read.remaining c.run_document_and_tell.new.reader) (g.W.Write.contents c.args.writer.now) (g.W.Write.contents c.run_document_and_tell.new.writer) (g.H.Person.heard c.args.person.now) (g.H.Person.heard c.run_document_and_tell.new.person) c.run_document_and_tell.result) (sym c.in-Document.is) (c.run_document_and_tell.ensures.told, c.run_document_and_tell.ensures.heard)
