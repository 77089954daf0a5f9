use Rattle.std.proofs.Common.{◌≡◌, ◌<◌, length, None, Err, sym, subst, rules, arith}
use Rattle.json.specs.Json.{after_end_array}
use Rattle.bep_tree.specs.Walk.{Stands}
use Rattle.bep_tree.proofs.Walking.{item_comes, list_ends}
use Rattle.bep_tree.proofs.walk.pass_items.Goals as goal

pub loop-reader-preserved : goal.loop-reader-preserved
loop-reader-preserved c =
    let going : (after_end_array c.loop-reader.reader ≡ None) × (c.take_end_array.new.self ≡ c.loop-reader.reader) = grind arith in
    record {
      items = λ ds rest stood.
          let there = c.loop-reader.invariant.items ds rest stood in
          let one = item_comes c.args.depth c.loop-reader.reader there.0 rest going.0 there.1 in
          let passed = c.in_ok-pass.ensures.value one.0 one.2 (subst (λ ts. Stands c.args.depth ts one.0 one.2) (sym going.1) one.4) in
          (one.1, rw passed one.5);
      no_longer = let shorter : length c.pass.new.reader < length c.loop-reader.reader = rw (← going.1) c.in_ok-pass.ensures.shorter in omega (arith, c.loop-reader.invariant.no_longer);
    }

pub returns-in_err-pass-clause-value : goal.returns-in_err-pass-clause-value
returns-in_err-pass-clause-value c = λ ds rest stood.
    let going : (after_end_array c.loop-reader.reader ≡ None) × (c.take_end_array.new.self ≡ c.loop-reader.reader) = grind arith in
    let there = c.loop-reader.invariant.items ds rest stood in
    let one = item_comes c.args.depth c.loop-reader.reader there.0 rest going.0 there.1 in
    let fails = c.in_err-pass.ensures.value one.0 one.2 (subst (λ ts. Stands c.args.depth ts one.0 one.2) (sym going.1) one.4) in
    let is : c.from_residual.result ≡ Err c.in_err-pass.field-0.0 = search rules in
    rw is fails

pub returns-clause-value : goal.returns-clause-value
returns-clause-value c = λ ds rest stood.
    let there = c.loop-reader.invariant.items ds rest stood in
    (list_ends c.args.depth c.loop-reader.reader c.take_end_array.new.self there.0 rest c.loop-reader-test.ensures there.1).1
