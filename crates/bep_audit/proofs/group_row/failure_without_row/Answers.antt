use Rattle.std.proofs.Common.{◌≡◌, [], map, Some, sym, subst, ◌∙◌, true≢false}
use Rattle.bep_model.specs.declared.reason.Reason.TheVariants.{NameMissing}
use Rattle.bep_tables.specs.Cut.{tables_of}
use Rattle.bep_tables.specs.Listed.{listed}
use Rattle.bep_audit.specs.inner.Walk.{FindsLeast}
use Rattle.bep_audit.proofs.GroupFacts.{known_by_group}
use Rattle.bep_audit.proofs.GroupRow.{known_fails, unknown_holds}
use Rattle.bep_audit.proofs.group_row.failure_without_row.Goals as goal

pub returns-then-has_known : goal.returns-then-has_known
returns-then-has_known c =
    let t = tables_of c.args.cut.now in
    let by_group = known_by_group c.entries_are_held.ensures.held c.args.cut.now c.is_a_cut.ensures (c.args.folder.now, c.args.name.now) (map listed c.args.group.now) c.requires c.entries_are_held.ensures.shares in
    subst (λ place. FindsLeast t [] (λ other. other ≡ (c.args.folder.now, c.args.name.now)) (Some (record { reason = NameMissing; place = place }))) (sym c.of_name.ensures)
    (known_fails t (c.args.folder.now, c.args.name.now) (by_group.0 (c.has_known.ensures.0 c.if-has_known.true)))

pub returns : goal.returns
returns c =
    let by_group = known_by_group c.entries_are_held.ensures.held c.args.cut.now c.is_a_cut.ensures (c.args.folder.now, c.args.name.now) (map listed c.args.group.now) c.requires c.entries_are_held.ensures.shares in
    unknown_holds (tables_of c.args.cut.now) (c.args.folder.now, c.args.name.now)
    (λ known. true≢false (sym (c.has_known.ensures.1 (by_group.1 known)) ∙ c.if-has_known.false))
