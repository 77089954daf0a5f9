use Rattle.std.proofs.Common.{◌∷◌, ◌∙◌, [], map, subst, sym}
use Rattle.bep_tables.specs.Listed.{stored}
use Rattle.bep_tables.specs.inner.Groups.{Took}
use Rattle.bep_tables.proofs.ListingFacts.{took_both, took_none}
use Rattle.bep_tables.proofs.table.listing.add_nodes.Goals as goal

pub loop-name-init : goal.loop-name-init
loop-name-init c = λ last took.
    subst (λ left. Took (map (stored c.args.folder.now c.args.device) left) c.args.groups.now last) (c.into_iter-name-iterator.ensures.into_iter_gives ∙ c.iter-name-items.ensures) took

pub loop-name-preserved : goal.loop-name-preserved
loop-name-preserved c = λ last took.
    c.loop-name.invariant last
    (subst (λ left. Took (map (stored c.args.folder.now c.args.device) left) c.loop-name.groups last) (sym c.in-Some.ensures.steps)
    (took_both (stored c.args.folder.now c.args.device (c.in-Some.name.now, c.in-Some.node.now) ∷ []) (map (stored c.args.folder.now c.args.device) c.next.new.self) c.in_ok-add.ensures took))

pub returns : goal.returns
returns c =
    c.loop-name.invariant c.loop-name.groups
    (subst (λ left. Took (map (stored c.args.folder.now c.args.device) left) c.loop-name.groups c.loop-name.groups) (sym c.in-None.ensures.steps.0) (took_none c.loop-name.groups))
