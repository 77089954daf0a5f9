use Rattle.std.proofs.Common.{◌∙◌, map, option_map, sym, ap}
use Rattle.bep_tables.specs.Listed.{listed}
use Rattle.bep_audit.specs.Loose.{loose_shown}
use Rattle.bep_explain.specs.inner.Rows.{row_shown}
use Rattle.bep_explain.proofs.LooseFacts.{adds_nothing, adds_one}
use Rattle.bep_explain.proofs.loose.add_entry.Goals as goal

pub returns-in-None : goal.returns-in-None
returns-in-None c =
    adds_nothing (map row_shown c.args.rows.now) (listed c.args.entry.now) (ap (option_map loose_shown) (sym c.in-None.is) ∙ c.loosening_of.ensures) (map loose_shown c.args.found.now.items)

pub returns-in_ok-add_unless-in-Some : goal.returns-in_ok-add_unless-in-Some
returns-in_ok-add_unless-in-Some c =
    adds_one (map row_shown c.args.rows.now) (listed c.args.entry.now) (loose_shown c.in-Some.one) (ap (option_map loose_shown) (sym c.in-Some.is) ∙ c.loosening_of.ensures)
    c.meets.result (map loose_shown c.args.found.now.items) (map loose_shown c.add_unless.new.found.items) c.meets.ensures c.in_ok-add_unless-in-Some.ensures
