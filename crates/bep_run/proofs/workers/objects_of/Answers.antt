use Rattle.std.proofs.Common.{rules, ◌≤◌, length, subst, sym}
use Rattle.bep_fit.specs.declared.object.Object.TheVariants as objects
use Rattle.bep_history.specs.View.{AreDistinct}
use Rattle.bep_links.specs.Link.{LinkBetween}
use Rattle.bep_run.specs.inner.Kept.{objects_of_peers}
use Rattle.bep_run.proofs.Distinct.{distinct_objects}
use Rattle.bep_run.proofs.Listing.{all_listed}
use Rattle.bep_run.proofs.workers.objects_of.Goals as goal

pub returns-clause-distinct : goal.returns-clause-distinct
returns-clause-distinct g c =
    let cluster = c.args.cluster.now in
    let all = c.links-link-items.result.now in
    let past : length all ≤ c.loop-link.link-index = search rules in
    let listed =
    all_listed (λ (link : LinkBetween). objects.Link link.ends.0 link.ends.1) (objects_of_peers cluster.members) all cluster.links c.links-link-items.ensures.value c.loop-link.link-index c.loop-link.objects.items
    c.loop-link.invariant past in
    subst AreDistinct (sym listed) (distinct_objects cluster c.links-link-items.ensures.a_network)
