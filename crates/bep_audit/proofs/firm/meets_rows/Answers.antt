use Rattle.std.proofs.Common.{refl, true≢false, sym}
use Rattle.bep_tables.specs.Listed.{listed}
use Rattle.bep_audit.proofs.LooseFacts.{met_without_row, met_beside_one}
use Rattle.bep_audit.proofs.firm.meets_rows.Goals as goal

pub returns-in-None : goal.returns-in-None
returns-in-None c =
    (λ _. met_without_row c.args.rows.now (listed c.args.entry.now) (λ has. true≢false (sym (c.in-None.ensures.has.1 has))), λ _. refl)

pub returns-in-Some : goal.returns-in-Some
returns-in-Some c =
    let both = met_beside_one c.args.rows.now c.requires (listed c.args.entry.now) c.in-Some.row.now c.in-Some.ensures.found.0 c.in-Some.ensures.found.1 in
    (λ holds. both.0 (c.meets_row.ensures.0 holds), λ meets. c.meets_row.ensures.1 (both.1 meets))
