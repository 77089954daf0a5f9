use Rattle.std.proofs.Common.{None, refl, sym, ap, ◌∙◌}
use Rattle.std.specs.Option.{option_copied}
use Rattle.bep_folder.proofs.StoredFacts.{stored-held}
use Rattle.bep_folder.proofs.pull.writes.remove_node.Goals as goal

pub returns-in-None-clause-removed : goal.returns-in-None-clause-removed
returns-in-None-clause-removed g c =
    (sym (stored-held c.args.store.now.contents c.args.name.now None (c.requires.node ∙ ap option_copied c.in-None.is)), refl, refl)
