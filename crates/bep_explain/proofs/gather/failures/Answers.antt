use Rattle.std.proofs.Common.{List, [], map, subst, ap, ◌∙◌}
use Rattle.bep_model.specs.declared.row.Row.{Row}
use Rattle.bep_tables.specs.Cut.{tables_of}
use Rattle.bep_audit.specs.FailureOrder.{lent_cmp}
use Rattle.bep_audit.specs.Walk.{failure_shown}
use Rattle.bep_gather.specs.Adding.{AddsFailing}
use Rattle.bep_gather.specs.Distinct.{distinct}
use Rattle.bep_explain.specs.Found.{IsMet}
use Rattle.bep_explain.proofs.Results.{Tells, tells, are_failures, empty_exactly, tells_verdict}
use Rattle.bep_explain.proofs.gather.failures.Goals as goal
use Rattle.bep_explain.proofs.gather.failures.Goals.{In_ok-kept}

-- what is kept tells all that fails
told : (c : In_ok-kept) → Tells (tables_of c.args.cut.now) c.args.certificate.now (map failure_shown c.in_ok-kept.kept.items)
told c =
    let t = tables_of c.args.cut.now in
    let adds = subst (λ (all : List Row). AddsFailing (IsMet t all) [] (map failure_shown c.in_ok-found.found.items)) c.rows.ensures c.in_ok-found.ensures in
    tells t c.args.certificate.now c.reasons_are_numbered.ensures.different c.in_ok-found.found.items c.sort.new.self.items c.in_ok-kept.kept.items adds
    c.sort.ensures.permutation c.in_ok-sort.ensures.sorted (c.in_ok-kept.ensures ∙ ap (distinct lent_cmp) c.as_slice.ensures.value)

pub returns-clause-all : goal.returns-clause-all
returns-clause-all c = are_failures (tables_of c.args.cut.now) c.args.certificate.now (map failure_shown c.in_ok-kept.kept.items) (told (goal.at.returns-clause-all c).In_ok-kept)

pub returns-clause-settled : goal.returns-clause-settled
returns-clause-settled c = empty_exactly (tables_of c.args.cut.now) c.args.certificate.now c.settled_is_faultless.ensures c.in_ok-kept.kept.items (told (goal.at.returns-clause-settled c).In_ok-kept)

pub returns-clause-verdict : goal.returns-clause-verdict
returns-clause-verdict c = tells_verdict (tables_of c.args.cut.now) c.args.certificate.now c.settled_is_faultless.ensures (map failure_shown c.in_ok-kept.kept.items) (told (goal.at.returns-clause-verdict c).In_ok-kept)
