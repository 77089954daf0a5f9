use Rattle.std.proofs.Common.{◌≡◌, rules, tests}
use Rattle.bep_audit.proofs.foreign.end_passes.Goals as goal

pub returns-else-ne : goal.returns-else-ne
returns-else-ne c =
    let same : c.args.end ≡ c.args.device = search (rules, tests) in
    (λ pass _. c.flights_pass.ensures.0 pass, λ passes. c.flights_pass.ensures.1 (passes same))
