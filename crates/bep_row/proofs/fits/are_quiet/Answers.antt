use Rattle.std.proofs.Common.{rules, tests}
use Rattle.std.proofs.lemmas.Iterator.{YieldsList-from_slice, cases_from_all}
use Rattle.bep_tables.specs.declared.link.LinkState.{LinkState}
use Rattle.bep_audit.proofs.ListFacts.{each_exactly}
use Rattle.bep_row.specs.Fits.{IsQuiet}
use Rattle.bep_row.proofs.fits.are_quiet.Goals as goal

pub returns : goal.returns
returns c =
    let P = λ (link : LinkState). IsQuiet link in
    each_exactly P c.all.result c.args.links.now
    (cases_from_all _ _ _ P (λ x. ¬ P x) c.all.ensures.ran (YieldsList-from_slice c.args.links.now cc) (λ x q k. search (rules, tests)) (λ x q k. search (rules, tests)))
