use Rattle.std.proofs.Common.{◌≡◌, sym, subst}
use Rattle.syncaudit.specs.Status.{IsDone}
use Rattle.syncaudit.specs.inner.Says.{SaysIn}
use Rattle.syncaudit.proofs.SaysFacts.{check_says, firm_says, rows_say, run_says}
use Rattle.syncaudit.proofs.run.follow.Goals as goal

pub returns-in-Check-clause-done : goal.returns-in-Check-clause-done
returns-in-Check-clause-done g c = subst (λ mode. IsDone mode (g.R.Read.remaining c.args.reader.now) (g.R.Read.remaining c.check.new.reader) (g.W.Write.contents c.args.writer.now) (g.W.Write.contents c.check.new.writer) (g.H.Person.heard c.args.person.now) (g.H.Person.heard c.check.new.person) c.check.result) (sym c.in-Check.is) c.check.ensures.told

pub returns-in-Check-clause-says : goal.returns-in-Check-clause-says
returns-in-Check-clause-says g c = subst (λ mode. c.check.result ≡ 0 → SaysIn mode (g.R.Read.remaining c.args.reader.now) (g.R.Read.remaining c.check.new.reader)) (sym c.in-Check.is) (check_says _ _ _ c.in-Check.under c.check.ensures.settled c.check.ensures.settled_under_winners)

pub returns-in-Firm-clause-done : goal.returns-in-Firm-clause-done
returns-in-Firm-clause-done g c = subst (λ mode. IsDone mode (g.R.Read.remaining c.args.reader.now) (g.R.Read.remaining c.firm.new.reader) (g.W.Write.contents c.args.writer.now) (g.W.Write.contents c.firm.new.writer) (g.H.Person.heard c.args.person.now) (g.H.Person.heard c.firm.new.person) c.firm.result) (sym c.in-Firm.is) c.firm.ensures.told

pub returns-in-Firm-clause-says : goal.returns-in-Firm-clause-says
returns-in-Firm-clause-says g c = subst (λ mode. c.firm.result ≡ 0 → SaysIn mode (g.R.Read.remaining c.args.reader.now) (g.R.Read.remaining c.firm.new.reader)) (sym c.in-Firm.is) (firm_says _ _ _ c.in-Firm.under c.firm.ensures.firm c.firm.ensures.firm_under_winners)

pub returns-in-Converge-clause-done : goal.returns-in-Converge-clause-done
returns-in-Converge-clause-done g c = subst (λ mode. IsDone mode (g.R.Read.remaining c.args.reader.now) (g.R.Read.remaining c.converge_and_tell.new.reader) (g.W.Write.contents c.args.writer.now) (g.W.Write.contents c.converge_and_tell.new.writer) (g.H.Person.heard c.args.person.now) (g.H.Person.heard c.converge_and_tell.new.person) c.converge_and_tell.result) (sym c.in-Converge.is) (c.converge_and_tell.ensures.told, c.converge_and_tell.ensures.heard)

pub returns-in-Converge-clause-says : goal.returns-in-Converge-clause-says
returns-in-Converge-clause-says g c = subst (λ mode. c.converge_and_tell.result ≡ 0 → SaysIn mode (g.R.Read.remaining c.args.reader.now) (g.R.Read.remaining c.converge_and_tell.new.reader)) (sym c.in-Converge.is) c.converge_and_tell.ensures.converging

pub returns-in-Certify-clause-done : goal.returns-in-Certify-clause-done
returns-in-Certify-clause-done g c = subst (λ mode. IsDone mode (g.R.Read.remaining c.args.reader.now) (g.R.Read.remaining c.certify.new.reader) (g.W.Write.contents c.args.writer.now) (g.W.Write.contents c.certify.new.writer) (g.H.Person.heard c.args.person.now) (g.H.Person.heard c.certify.new.person) c.certify.result) (sym c.in-Certify.is) c.certify.ensures

pub returns-in-Certify-clause-says : goal.returns-in-Certify-clause-says
returns-in-Certify-clause-says g c = subst (λ mode. c.certify.result ≡ 0 → SaysIn mode (g.R.Read.remaining c.args.reader.now) (g.R.Read.remaining c.certify.new.reader)) (sym c.in-Certify.is) (λ zero. tt)

pub returns-in-Explain-clause-done : goal.returns-in-Explain-clause-done
returns-in-Explain-clause-done g c = subst (λ mode. IsDone mode (g.R.Read.remaining c.args.reader.now) (g.R.Read.remaining c.explain.new.reader) (g.W.Write.contents c.args.writer.now) (g.W.Write.contents c.explain.new.writer) (g.H.Person.heard c.args.person.now) (g.H.Person.heard c.explain.new.person) c.explain.result) (sym c.in-Explain.is) c.explain.ensures

pub returns-in-Explain-clause-says : goal.returns-in-Explain-clause-says
returns-in-Explain-clause-says g c = subst (λ mode. c.explain.result ≡ 0 → SaysIn mode (g.R.Read.remaining c.args.reader.now) (g.R.Read.remaining c.explain.new.reader)) (sym c.in-Explain.is) (λ zero. tt)

pub returns-in-Rows-clause-done : goal.returns-in-Rows-clause-done
returns-in-Rows-clause-done g c = subst (λ mode. IsDone mode (g.R.Read.remaining c.args.reader.now) (g.R.Read.remaining c.read_rows.new.reader) (g.W.Write.contents c.args.writer.now) (g.W.Write.contents c.read_rows.new.writer) (g.H.Person.heard c.args.person.now) (g.H.Person.heard c.read_rows.new.person) c.read_rows.result) (sym c.in-Rows.is) c.read_rows.ensures.told

pub returns-in-Rows-clause-says : goal.returns-in-Rows-clause-says
returns-in-Rows-clause-says g c = subst (λ mode. c.read_rows.result ≡ 0 → SaysIn mode (g.R.Read.remaining c.args.reader.now) (g.R.Read.remaining c.read_rows.new.reader)) (sym c.in-Rows.is) (rows_say _ _ _ c.in-Rows.goal c.in-Rows.reasons c.read_rows.ensures.settled c.read_rows.ensures.firm c.read_rows.ensures.converging)

pub returns-in-Run-clause-done : goal.returns-in-Run-clause-done
returns-in-Run-clause-done g c = subst (λ mode. IsDone mode (g.R.Read.remaining c.args.reader.now) (g.R.Read.remaining c.run_scenario.new.reader) (g.W.Write.contents c.args.writer.now) (g.W.Write.contents c.run_scenario.new.writer) (g.H.Person.heard c.args.person.now) (g.H.Person.heard c.run_scenario.new.person) c.run_scenario.result) (sym c.in-Run.is) c.run_scenario.ensures.told

pub returns-in-Run-clause-says : goal.returns-in-Run-clause-says
returns-in-Run-clause-says g c = subst (λ mode. c.run_scenario.result ≡ 0 → SaysIn mode (g.R.Read.remaining c.args.reader.now) (g.R.Read.remaining c.run_scenario.new.reader)) (sym c.in-Run.is) (run_says _ _ _ c.in-Run.ending c.in-Run.turns c.run_scenario.ensures.settled c.run_scenario.ensures.lives_settled)
