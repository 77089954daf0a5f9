use Rattle.std.proofs.Common.{sym}
use Rattle.json.specs.Value.{value_view}
use Rattle.bep_tree.proofs.Text.{of_good_json, of_bad_json}
use Rattle.bep_tree.proofs.read.read_text.Goals as goal

pub returns-then-are_in_range : goal.returns-then-are_in_range
returns-then-are_in_range c = of_good_json c.args.text.now (value_view c.in_ok-tree.tree) c.utf8.text c.in_ok-tree.ensures (sym c.if-are_in_range.ensures)

pub returns : goal.returns
returns c = of_bad_json c.args.text.now (value_view c.in_ok-tree.tree) c.utf8.text c.in_ok-tree.ensures (sym c.if-are_in_range.ensures)
