use Rattle.std.proofs.Common.{◌≡◌, ◌∙◌, map, ap}
use Rattle.std.proofs.lemmas.Result.{IfOk-weaker}
use Rattle.bep_model.specs.Tables.{Device}
use Rattle.bep_tables.specs.declared.link.LinkState.{LinkState}
use Rattle.bep_cut.specs.LinkState.{both_have, link_cut}
use Rattle.bep_cut.specs.Cut.{seen, replicas_at, link_at}
use Rattle.bep_cut.proofs.LinkFacts.{same_link, sound_link}
use Rattle.bep_cut.proofs.links.link_at.Goals as goal

pub returns-clause-link : goal.returns-clause-link
returns-clause-link g c =
    let all = map seen c.args.peers.now in
    let between = c.args.link.now in
    let same = same_link c.folders_at-from.result.now c.folders_at-to.result.now (replicas_at all c.ends-lower.result.0) (replicas_at all c.ends-lower.result.1) between c.folders_at-from.ensures c.folders_at-to.ensures in
    IfOk-weaker c.link_cut.result (λ (made : LinkState). made ≡ link_cut (both_have c.folders_at-from.result.now c.folders_at-to.result.now) between) (λ made. made ≡ link_at all between) (λ made is. is ∙ same ∙ ap (λ (ends : Device × Device). link_cut (both_have (replicas_at all ends.0) (replicas_at all ends.1)) between) c.ends-lower.ensures.value) c.link_cut.ensures.state

pub returns-clause-sound : goal.returns-clause-sound
returns-clause-sound g c =
    sound_link (map seen c.args.peers.now) c.args.link.now c.link_cut.result (returns-clause-link g c) c.link_cut.ensures.batches_to_a c.link_cut.ensures.batches_to_b c.link_cut.ensures.a_link
