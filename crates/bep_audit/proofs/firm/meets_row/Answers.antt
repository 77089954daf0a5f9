use Rattle.std.proofs.Common.{[], ◌∷◌, refl, ap}
use Rattle.bep_tables.specs.Listed.{held, listed}
use Rattle.bep_audit.proofs.LooseFacts.{met_by_node, met_by_version}
use Rattle.bep_audit.proofs.firm.meets_row.Goals as goal

pub returns-in-Record : goal.returns-in-Record
returns-in-Record c =
    let by_version = met_by_version c.args.row.now (listed c.args.entry.now) c.in-Record.source c.in-Record.found.now (ap held c.in-Record.is) in
    (λ holds. by_version.0 (c.meets_if_about.ensures.0 holds), λ meets. c.meets_if_about.ensures.1 (by_version.1 meets))

pub returns-in-Node : goal.returns-in-Node
returns-in-Node c =
    (λ _. met_by_node (c.args.row.now ∷ []) (listed c.args.entry.now) _ (ap held c.in-Node.is), λ _. refl)
