use Rattle.std.proofs.Common.{◌∙◌, option_map, sym, ap}
use Rattle.json.specs.Value.{value_view}
use Rattle.bep_tree.specs.View.{data_of}
use Rattle.bep_tree.proofs.Found.{stands_at, value_of_found}
use Rattle.bep_tree.proofs.look.at.Goals as goal

pub returns : goal.returns
returns c = value_of_found c.at.result ∙ ap (option_map data_of) c.at.ensures ∙ sym (stands_at c.args.place (value_view c.args.tree.now))
