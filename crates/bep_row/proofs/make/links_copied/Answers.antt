use Rattle.std.proofs.Common.{Contains, sym, subst}
use Rattle.std.proofs.lemmas.List.Elements.{Contains-get_or}
use Rattle.bep_row.proofs.make.links_copied.Goals as goal

pub quiet_copied-requires : goal.quiet_copied-requires
quiet_copied-requires c =
    c.requires c.link-item.result
    (subst (Contains c.args.links.now) (sym c.link-item.is) (Contains-get_or c.args.links.now c.loop-link.link-index c.link-item.result c.loop-link-test.true))
