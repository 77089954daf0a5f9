use Rattle.std.proofs.Common.{◌++◌, ◌∷◌, [], map, subst}
use Rattle.bep_audit.specs.Loose.{loose_shown}
use Rattle.bep_explain.specs.FirmTold.{LooseTold}
use Rattle.bep_explain.specs.inner.Lines.{AddsLooseLines}
use Rattle.bep_explain.proofs.LinesFacts.{all_found, lines_one_loose, one_further}
use Rattle.bep_explain.proofs.text.push_all_loose.Goals as goal

pub loop-one-preserved : goal.loop-one-preserved
loop-one-preserved c =
    let had = c.loop-one.invariant in
    let one : LooseTold = record { loosening = loose_shown c.one-item.result; details = map (λ said. said.items) c.as_slice-in-loop-one.result.now } in (
      had.0 ++ loose_shown c.one-item.result ∷ [],
      one_further loose_shown c.args.found.now c.loop-one.one-index c.one-item.result had.0 c.loop-one-test.true c.one-item.is had.1,
      lines_one_loose had.0 one _ _ _ had.2 c.in_ok-push_loose.ensures,
    )

pub returns : goal.returns
returns c =
    let had = c.loop-one.invariant in
    subst (λ found. AddsLooseLines found c.args.text.now.items c.loop-one.text.items) (all_found loose_shown c.args.found.now c.loop-one.one-index had.0 c.loop-one-test.false had.1) had.2
