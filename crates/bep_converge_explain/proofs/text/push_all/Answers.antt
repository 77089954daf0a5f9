use Rattle.std.proofs.Common.{◌++◌, ◌∷◌, [], map, subst}
use Rattle.bep_explain.proofs.LinesFacts.{all_found, one_further}
use Rattle.bep_converge_check.specs.Hindrance.{hinder_shown}
use Rattle.bep_converge_explain.specs.Told.{HinderTold}
use Rattle.bep_converge_explain.specs.inner.Added.{AddsHinderLines}
use Rattle.bep_converge_explain.proofs.WrittenFacts.{hinder_lines_one}
use Rattle.bep_converge_explain.proofs.text.push_all.Goals as goal

pub loop-one-preserved : goal.loop-one-preserved
loop-one-preserved c =
    let had = c.loop-one.invariant in
    let one : HinderTold = record { hinder = hinder_shown c.one-item.result; details = map (λ said. said.items) c.as_slice-in-loop-one.result.now } in (
      had.0 ++ hinder_shown c.one-item.result ∷ [],
      one_further hinder_shown c.args.found.now c.loop-one.one-index c.one-item.result had.0 c.loop-one-test.true c.one-item.is had.1,
      hinder_lines_one had.0 one _ _ _ had.2 c.in_ok-push_told.ensures,
    )

pub returns : goal.returns
returns c =
    let had = c.loop-one.invariant in
    subst (λ found. AddsHinderLines found c.args.text.now.items c.loop-one.text.items) (all_found hinder_shown c.args.found.now c.loop-one.one-index had.0 c.loop-one-test.false had.1) had.2
