use Rattle.std.proofs.Common.{rules, tests}
use Rattle.std.proofs.lemmas.Iterator.{YieldsList-from_slice, cases_from_any}
use Rattle.bep_tables.specs.declared.share.PeerView.{PeerView}
use Rattle.bep_audit.specs.inner.Known.{HasValid}
use Rattle.bep_audit.proofs.ListFacts.{some_exactly}
use Rattle.bep_audit.proofs.known.is_viewed.Goals as goal

pub returns : goal.returns
returns c =
    let P = λ (view : PeerView). HasValid view.records c.args.name.now in
    some_exactly P c.any.result c.args.views.now
    (cases_from_any _ _ _ P (λ x. ¬ P x) c.any.ensures.ran (YieldsList-from_slice c.args.views.now cc) (λ x q k. search (rules, tests)) (λ x q k. search (rules, tests)))
