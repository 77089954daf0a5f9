use Rattle.std.proofs.Common.{rules, ◌≡◌, ◌∙◌, sym}
use Rattle.bep_peer.proofs.AskFacts.{found, goes_on}
use Rattle.bep_peer.proofs.sending.ask.next_block.Goals.{else-not-is_received-via-then-not-is_received+else-not-is_asked, else-not-is_received-via-else-not-is_received}
use Rattle.bep_peer.proofs.sending.ask.next_block.Goals as goal

pub returns-then-not-is_asked : goal.returns-then-not-is_asked
returns-then-not-is_asked c =
    let same : c.as_slice-block-items.result.now ≡ c.args.pull.now.target.blocks = search rules in
    found c.args.session.now c.args.folder.now c.args.name.now _ c.as_slice-block-items.result.now c.args.pull.now.target.blocks c.args.pull.now.received c.loop-place.place same c.target.ensures.a_pull.received c.loop-place-test.true c.loop-place.invariant
    (λ there. absurd (let told = c.is_received.ensures.1 there in search rules)) (sym c.is_asked.ensures ∙ search rules)

pub loop-place-preserved : goal.loop-place-preserved
loop-place-preserved c =
    let same : c.as_slice-block-items.result.now ≡ c.args.pull.now.target.blocks = search rules in
    goes_on c.args.session.now c.args.folder.now c.args.name.now _ c.as_slice-block-items.result.now c.args.pull.now.target.blocks c.args.pull.now.received c.loop-place.place same c.target.ensures.a_pull.received c.loop-place-test.true c.loop-place.invariant
    (elim c.else-not-is_received.branch [
      | else-not-is_received-via-then-not-is_received+else-not-is_asked w ↦ λ none. sym w.is_asked.ensures ∙ search rules
      | else-not-is_received-via-else-not-is_received w ↦ λ none. absurd (none (c.is_received.ensures.0 (search rules)))
    ])
