use Rattle.std.proofs.Common.{Contains, sym, subst}
use Rattle.bep_run.proofs.Endings.{still_has}
use Rattle.bep_run.proofs.ending.end_link.Goals as goal

pub returns-in_err-push-clause-still : goal.returns-in_err-push-clause-still
returns-in_err-push-clause-still g c = λ one stands. subst (λ me. Contains me.0.rows one) (sym c.give.ensures.1) (still_has c.in_ok-copy.seat c.args.whole.now.me.0 one stands)

pub returns-clause-still : goal.returns-clause-still
returns-clause-still g c = λ one stands. subst (λ me. Contains me.0.rows one) (sym c.give.ensures.1) (still_has c.in_ok-copy.seat c.args.whole.now.me.0 one stands)
