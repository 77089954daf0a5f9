use Rattle.std.proofs.Common.{◌≡◌, Some, map, sym, subst, ◌∙◌, true≢false}
use Rattle.bep_tables.specs.Cut.{tables_of}
use Rattle.bep_model.specs.Tables.{Folder, FileName}
use Rattle.bep_tables.specs.Listed.{listed}
use Rattle.bep_audit.proofs.GroupFacts.{known_by_group}
use Rattle.bep_converge_check.specs.Hindrance.{Hinder}
use Rattle.bep_converge_check.specs.inner.Found.{FindsHinder}
use Rattle.bep_converge_check.proofs.NameSays.{top_among}
use Rattle.bep_converge_check.proofs.AtName.{unknown_found, nothing_prevails}
use Rattle.bep_converge_check.proofs.at_name.hindrance_at.Goals as goal

pub returns-then-not-has_known : goal.returns-then-not-has_known
returns-then-not-has_known c =
    let by_group = known_by_group c.entries_are_held.ensures.held c.args.cut.now c.is_a_cut.ensures (c.args.folder.now, c.args.name.now) (map listed c.args.group.now) c.requires c.entries_are_held.ensures.shares in
    unknown_found (tables_of c.args.cut.now) (c.args.folder.now, c.args.name.now) (λ known. true≢false (sym (c.has_known.ensures.1 (by_group.1 known)) ∙ c.if-not-has_known.true))

pub returns-in-None : goal.returns-in-None
returns-in-None c =
    let t = tables_of c.args.cut.now in
    let key : Folder × FileName = (c.args.folder.now, c.args.name.now) in
    let group = map listed c.args.group.now in
    let by_group = known_by_group c.entries_are_held.ensures.held c.args.cut.now c.is_a_cut.ensures key group c.requires c.entries_are_held.ensures.shares in
    subst (λ (one : Hinder). FindsHinder t (λ k. k ≡ key) (Some one)) (sym c.at_whole.ensures)
    (nothing_prevails t key (by_group.0 (c.has_known.ensures.0 c.if-not-has_known.false))
    (λ some. c.in-None.ensures.none some.0 (top_among c.entries_are_held.ensures.held c.entries_are_held.ensures.shares c.args.cut.now c.is_a_cut.ensures key group c.requires some.0 some.1)))

pub below_top-requires : goal.below_top-requires
below_top-requires c =
    let by_group = known_by_group c.entries_are_held.ensures.held c.args.cut.now c.is_a_cut.ensures (c.args.folder.now, c.args.name.now) (map listed c.args.group.now) c.requires c.entries_are_held.ensures.shares in
    record { group = c.requires; known = by_group.0 (c.has_known.ensures.0 c.if-not-has_known.false); top = c.in-Some.ensures.top }
