use Rattle.std.proofs.Common.{Some, None, option_map, refl, ap}
use Rattle.bep_tables.specs.Cut.{tables_of}
use Rattle.bep_audit.specs.Loose.{loose_shown}
use Rattle.bep_audit.proofs.LooseFacts.{found_in, none_is_firm, least_is_loose, loose_is_not_firm}
use Rattle.bep_audit.proofs.firm.firm_or_loose.Goals as goal

pub returns-in-None-clause-verdict : goal.returns-in-None-clause-verdict
returns-in-None-clause-verdict c =
    none_is_firm c.entries_are_held.ensures.held c.entries_are_held.ensures.shares c.args.cut.now c.is_a_cut.ensures c.args.table.now c.requires.table c.args.certificate.now
    c.firm_is_faultless.ensures c.requires.settled
    (found_in c.args.certificate.now c.rows.result.now c.args.table.now c.entries.result.now None (option_map loose_shown c.least_loose.result)
    c.rows.ensures c.entries.ensures (ap (option_map loose_shown) c.in-None.is) c.least_loose.ensures)

pub returns-in-None-clause-firm : goal.returns-in-None-clause-firm
returns-in-None-clause-firm c = (λ _. returns-in-None-clause-verdict c, λ _. refl)

pub returns-in-None-clause-stays_firm : goal.returns-in-None-clause-stays_firm
returns-in-None-clause-stays_firm c = λ _. c.firm_stays_firm.ensures (tables_of c.args.cut.now) c.args.certificate.now (returns-in-None-clause-verdict c)

pub returns-in-None-clause-stays_put : goal.returns-in-None-clause-stays_put
returns-in-None-clause-stays_put c = λ _. c.firm_stays_put.ensures (tables_of c.args.cut.now) c.args.certificate.now (returns-in-None-clause-verdict c)

pub returns-in-Some-clause-verdict : goal.returns-in-Some-clause-verdict
returns-in-Some-clause-verdict c = (
  c.requires.settled,
  least_is_loose c.entries_are_held.ensures.held c.entries_are_held.ensures.shares c.args.cut.now c.is_a_cut.ensures c.args.table.now c.requires.table c.args.certificate.now
      (loose_shown c.in-Some.one)
      (found_in c.args.certificate.now c.rows.result.now c.args.table.now c.entries.result.now (Some (loose_shown c.in-Some.one)) (option_map loose_shown c.least_loose.result)
      c.rows.ensures c.entries.ensures (ap (option_map loose_shown) c.in-Some.is) c.least_loose.ensures),
)

pub returns-in-Some-clause-firm : goal.returns-in-Some-clause-firm
returns-in-Some-clause-firm c = (
  λ e. absurd (cc),
  λ firm. absurd
      (loose_is_not_firm c.entries_are_held.ensures.held c.entries_are_held.ensures.shares c.args.cut.now c.is_a_cut.ensures c.args.table.now c.requires.table c.args.certificate.now
      c.firm_is_faultless.ensures (loose_shown c.in-Some.one)
      (found_in c.args.certificate.now c.rows.result.now c.args.table.now c.entries.result.now (Some (loose_shown c.in-Some.one)) (option_map loose_shown c.least_loose.result)
      c.rows.ensures c.entries.ensures (ap (option_map loose_shown) c.in-Some.is) c.least_loose.ensures)
      firm),
)
