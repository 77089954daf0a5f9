use Rattle.std.proofs.Common.{map, sym, subst, ap, ◌∙◌}
use Rattle.bep_tables.specs.Cut.{tables_of}
use Rattle.bep_tables.specs.Listed.{IsGrouped, cut_listed}
use Rattle.bep_gather.specs.Distinct.{distinct}
use Rattle.bep_converge_check.specs.Hindrance.{hinder_shown}
use Rattle.bep_converge_check.specs.inner.HindranceOrder.{hinder_lent_cmp}
use Rattle.bep_converge_check.proofs.HinderFacts.{Tells, tells, are_hindrances, none_exactly, tells_verdict}
use Rattle.bep_converge_check.proofs.gather.hindrances.Goals as goal
use Rattle.bep_converge_check.proofs.gather.hindrances.Goals.{In_ok-kept}

pub gathered-requires : goal.gathered-requires
gathered-requires c = subst (IsGrouped (cut_listed c.args.cut.now)) (sym c.entries.ensures) c.in_ok-table.ensures

-- what is kept tells all that fails
told : (c : In_ok-kept) → Tells (tables_of c.args.cut.now) (map hinder_shown c.in_ok-kept.kept.items)
told c =
    tells (tables_of c.args.cut.now) c.in_ok-found.found.items c.sort.new.self.items c.in_ok-kept.kept.items c.in_ok-found.ensures
    c.sort.ensures.permutation c.in_ok-sort.ensures.sorted (c.in_ok-kept.ensures ∙ ap (distinct hinder_lent_cmp) c.as_slice.ensures.value)

pub returns-clause-all : goal.returns-clause-all
returns-clause-all c = are_hindrances (tables_of c.args.cut.now) (map hinder_shown c.in_ok-kept.kept.items) (told (goal.at.returns-clause-all c).In_ok-kept)

pub returns-clause-converging : goal.returns-clause-converging
returns-clause-converging c = none_exactly (tables_of c.args.cut.now) c.converging_is_faultless.ensures c.in_ok-kept.kept.items (told (goal.at.returns-clause-converging c).In_ok-kept)

pub returns-clause-verdict : goal.returns-clause-verdict
returns-clause-verdict c = tells_verdict (tables_of c.args.cut.now) c.converging_is_faultless.ensures (map hinder_shown c.in_ok-kept.kept.items) (told (goal.at.returns-clause-verdict c).In_ok-kept)
