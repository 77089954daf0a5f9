use Rattle.std.proofs.Common.{◌↔◌, IsTrue, map, sym, subst}
use Rattle.std.specs.Option.{option_copied}
use Rattle.bep_tables.specs.Listed.{listed}
use Rattle.bep_audit.specs.Group.{AsksElsewhere}
use Rattle.bep_audit.proofs.group.meets_elsewhere.Goals as goal

pub returns-in-ViewAhead : goal.returns-in-ViewAhead
returns-in-ViewAhead c =
    subst (λ reason. IsTrue c.all_pass.result ↔ AsksElsewhere reason c.args.row.now (map listed c.args.group.now) c.args.device (option_copied c.args.own))
    (sym c.in-ViewAhead.is) c.all_pass.ensures

pub returns-in-FlightAhead : goal.returns-in-FlightAhead
returns-in-FlightAhead c =
    subst (λ reason. IsTrue c.all_pass-in-FlightAhead.result ↔ AsksElsewhere reason c.args.row.now (map listed c.args.group.now) c.args.device (option_copied c.args.own))
    (sym c.in-FlightAhead.is) c.all_pass-in-FlightAhead.ensures

pub returns-in-PullAhead : goal.returns-in-PullAhead
returns-in-PullAhead c =
    subst (λ reason. IsTrue c.all_pass-in-PullAhead.result ↔ AsksElsewhere reason c.args.row.now (map listed c.args.group.now) c.args.device (option_copied c.args.own))
    (sym c.in-PullAhead.is) c.all_pass-in-PullAhead.ensures
