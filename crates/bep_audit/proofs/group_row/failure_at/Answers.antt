use Rattle.std.proofs.Common.{◌≡◌, [], ◌∷◌, map, option_map, sym, subst}
use Rattle.bep_tables.specs.Cut.{tables_of}
use Rattle.bep_tables.specs.Listed.{listed}
use Rattle.bep_audit.specs.Group.{IsGroupOf}
use Rattle.bep_audit.specs.Walk.{failure_shown}
use Rattle.bep_audit.specs.inner.Walk.{FindsLeast}
use Rattle.bep_audit.proofs.GroupRow.{none_is, one_is, one_member}
use Rattle.bep_audit.proofs.group_row.failure_at.Goals as goal

pub failure_at_row-requires : goal.failure_at_row-requires
failure_at_row-requires c =
    let is = one_is c.args.rows.now c.row-item.result c.in-len1-up.len_at_least c.requires.few c.row-item.is in
    subst (λ key. IsGroupOf c.args.cut.now key (map listed c.args.group.now)) (sym (c.requires.about c.row-item.result (one_member c.args.rows.now c.row-item.result is))) c.requires.group

pub returns-in-empty : goal.returns-in-empty
returns-in-empty c =
    subst (λ rows. FindsLeast (tables_of c.args.cut.now) rows (λ key. key ≡ (c.args.folder.now, c.args.name.now)) (option_map failure_shown c.failure_without_row.result))
    (sym (none_is c.args.rows.now c.in-empty.len_below)) c.failure_without_row.ensures

pub returns-in-len1-up : goal.returns-in-len1-up
returns-in-len1-up c =
    let t = tables_of c.args.cut.now in
    let found = option_map failure_shown c.failure_at_row.result in
    let is = one_is c.args.rows.now c.row-item.result c.in-len1-up.len_at_least c.requires.few c.row-item.is in
    subst (λ rows. FindsLeast t rows (λ key. key ≡ (c.args.folder.now, c.args.name.now)) found) (sym is)
    (subst (λ k. FindsLeast t (c.row-item.result ∷ []) (λ key. key ≡ k) found) (c.requires.about c.row-item.result (one_member c.args.rows.now c.row-item.result is))
    c.failure_at_row.ensures)
