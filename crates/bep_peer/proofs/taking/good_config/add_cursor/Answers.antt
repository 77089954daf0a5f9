use Rattle.std.proofs.Common.{◌∙◌, sym, ap, option_map, rules}
use Rattle.bep_folder.specs.Held.{Held}
use Rattle.bep_peer.proofs.MemberFacts.{get-tables, has_tables}
use Rattle.bep_peer.proofs.taking.good_config.add_cursor.Goals as goal

pub returns-in_ok-insert : goal.returns-in_ok-insert
returns-in_ok-insert g c =
    let has = has_tables c.args.folders.now c.args.one.now.folder c.in-Some.replica.now (sym c.in-Some.ensures) in
    let put = c.in_ok-insert.ensures.ok in
    let key = c.in_ok-copy.ensures in
    let cursor = c.cursor_for.ensures in
    let index = c.index.ensures in
    rw has cc

pub returns-in_default : goal.returns-in_default
returns-in_default g c =
    let none = get-tables c.args.folders.now c.args.one.now.folder ∙ ap (option_map (λ (held : Held). held.tables)) (sym c.in_default.ensures) in
    rw none (search rules)
