use Rattle.std.proofs.Common.{◌++◌, ◌∙◌, sym, ap, take}
use Rattle.bep_peer.proofs.FirstRequest.{asked_at, without_at}
use Rattle.bep_peer.proofs.requests.place_of.Goals as goal

pub returns-then-request-id-clause-some : goal.returns-then-request-id-clause-some
returns-then-request-id-clause-some c =
    let within = c.loop-place-test.true in
    let found = asked_at c.args.id c.args.requests.now c.loop-place.place c.index-requests-place.result within c.index-requests-place.is c.if-request-id.true in
    let rest = without_at c.args.id c.args.requests.now c.loop-place.place c.index-requests-place.result within c.index-requests-place.is c.if-request-id.true in
    (within, sym c.loop-place.invariant.0 ∙ found, sym c.loop-place.invariant.1 ∙ ap (λ more. take c.loop-place.place c.args.requests.now ++ more) rest)
