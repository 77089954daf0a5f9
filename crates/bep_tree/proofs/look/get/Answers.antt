use Rattle.std.proofs.Common.{◌∙◌, option_map, sym, ap}
use Rattle.json.specs.Value.{value_view}
use Rattle.bep_tree.specs.View.{data_of}
use Rattle.bep_tree.proofs.Found.{is_found, value_of_found}
use Rattle.bep_tree.proofs.look.get.Goals as goal

pub returns : goal.returns
returns c = value_of_found c.get.result ∙ ap (option_map data_of) c.get.ensures ∙ sym (is_found c.args.name.now (value_view c.args.tree.now))
