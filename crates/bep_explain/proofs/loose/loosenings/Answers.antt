use Rattle.std.proofs.Common.{List, [], map, subst, ap, ◌∙◌}
use Rattle.bep_model.specs.declared.row.Row.{Row}
use Rattle.bep_tables.specs.Cut.{tables_of}
use Rattle.bep_audit.specs.Loose.{Loosening, loose_cmp, loose_shown}
use Rattle.bep_audit.specs.LooseOrder.{loose_lent_cmp, loose_total}
use Rattle.bep_gather.specs.Adding.{AddsFailing}
use Rattle.bep_gather.specs.Distinct.{distinct}
use Rattle.bep_explain.specs.Loose.{IsFirmlyMet}
use Rattle.bep_gather.specs.KeptFacts.{Tells, tells, empty_exactly, fails_exactly}
use Rattle.bep_explain.proofs.LooseFacts.{loose_exact}
use Rattle.bep_explain.proofs.loose.loosenings.Goals as goal
use Rattle.bep_explain.proofs.loose.loosenings.Goals.{In_ok-kept}

abbrev met : In_ok-kept → Loosening → Type 0
met c = IsFirmlyMet (tables_of c.args.cut.now) c.args.certificate.now

-- what is kept tells all that fails
told : (c : In_ok-kept) → Tells loose_cmp (met c) (map loose_shown c.in_ok-kept.kept.items)
told c =
    let adds = subst (λ (all : List Row). AddsFailing (IsFirmlyMet (tables_of c.args.cut.now) all) [] (map loose_shown c.in_ok-found.found.items)) c.rows.ensures c.in_ok-found.ensures in
    tells loose_shown loose_cmp loose_total loose_exact (met c) c.in_ok-found.found.items c.sort.new.self.items c.in_ok-kept.kept.items adds
    c.sort.ensures.permutation c.in_ok-sort.ensures.sorted (c.in_ok-kept.ensures ∙ ap (distinct loose_lent_cmp) c.as_slice.ensures.value)

pub returns-clause-all : goal.returns-clause-all
returns-clause-all c =
    let kept = (goal.at.returns-clause-all c).In_ok-kept in
    record {
      exact = fails_exactly loose_shown loose_cmp loose_total loose_exact (met kept) (map loose_shown c.in_ok-kept.kept.items) (told kept);
      rise = (told kept).rise;
    }

pub returns-clause-tight : goal.returns-clause-tight
returns-clause-tight c =
    let kept = (goal.at.returns-clause-tight c).In_ok-kept in
    empty_exactly loose_shown loose_cmp loose_total loose_exact (met kept) c.in_ok-kept.kept.items (told kept)
