use Rattle.std.proofs.Common.{rules, tests}
use Rattle.std.proofs.lemmas.Iterator.{YieldsList-from_slice, cases_from_all}
use Rattle.std.specs.Option.{option_copied}
use Rattle.bep_tables.specs.declared.share.PeerView.{PeerView}
use Rattle.bep_audit.proofs.ListFacts.{each_exactly}
use Rattle.bep_row.specs.Fits.{IsViewFit}
use Rattle.bep_row.proofs.fits.are_views_fit.Goals as goal

pub returns : goal.returns
returns c =
    let P = λ (view : PeerView). IsViewFit c.args.row.now (option_copied c.args.cell) view in
    each_exactly P c.all.result c.args.views.now
    (cases_from_all _ _ _ P (λ x. ¬ P x) c.all.ensures.ran (YieldsList-from_slice c.args.views.now cc) (λ x q k. search (rules, tests)) (λ x q k. search (rules, tests)))
