use Rattle.std.proofs.Common.{map, sym, ◌∙◌, true≢false}
use Rattle.bep_model.specs.Tables.{Folder, FileName}
use Rattle.bep_tables.specs.Cut.{tables_of}
use Rattle.bep_tables.specs.Listed.{listed}
use Rattle.bep_audit.proofs.GroupFacts.{known_by_group}
use Rattle.bep_gather.specs.AddFacts.{adds_none}
use Rattle.bep_converge_check.specs.Hindrance.{hinder_shown}
use Rattle.bep_converge_check.specs.inner.Says.{SaysName}
use Rattle.bep_converge_check.proofs.AllAtSays.{unknown_says}
use Rattle.bep_converge_check.proofs.all_at.add_all_at.Goals as goal

pub add_known-requires : goal.add_known-requires
add_known-requires c =
    let by_group = known_by_group c.entries_are_held.ensures.held c.args.cut.now c.is_a_cut.ensures (c.args.folder.now, c.args.name.now) (map listed c.args.group.now) c.requires c.entries_are_held.ensures.shares in
    record { group = c.requires; known = by_group.0 (c.has_known.ensures.0 c.if-has_known.true) }

pub returns-else-has_known : goal.returns-else-has_known
returns-else-has_known c =
    let key : Folder × FileName = (c.args.folder.now, c.args.name.now) in
    let by_group = known_by_group c.entries_are_held.ensures.held c.args.cut.now c.is_a_cut.ensures key (map listed c.args.group.now) c.requires c.entries_are_held.ensures.shares in
    adds_none (SaysName (tables_of c.args.cut.now) key) (map hinder_shown c.args.found.now.items)
    (unknown_says (tables_of c.args.cut.now) key (λ known. true≢false (sym (c.has_known.ensures.1 (by_group.1 known)) ∙ c.if-has_known.false)))
