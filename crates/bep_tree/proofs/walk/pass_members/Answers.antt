use Rattle.std.proofs.Common.{◌≡◌, Some, None, Err, rules, arith}
use Rattle.json.specs.Json.{read_key}
use Rattle.json.proofs.Grammar.{read_key-shorter}
use Rattle.serde_json.specs.Data.{put}
use Rattle.bep_tree.proofs.Walking.{member_comes, object_ends, key_comes}
use Rattle.bep_tree.proofs.walk.pass_members.Goals as goal

pub returns-in_err-next_key-clause-value : goal.returns-in_err-next_key-clause-value
returns-in_err-next_key-clause-value c = λ found ms rest stood.
    let there = c.loop-reader.invariant.members found ms rest stood in
    absurd (key_comes c.args.depth c.loop-reader.reader there.0 ms rest c.in_err-next_key.ensures.value.1 there.1)

pub loop-reader-preserved : goal.loop-reader-preserved
loop-reader-preserved c =
    let key : read_key c.loop-reader.reader ≡ Some (Some c.in-Some.field-0.now, c.next_key.new.reader) = grind arith in
    record {
      members = λ found ms rest stood.
          let there = c.loop-reader.invariant.members found ms rest stood in
          let one = member_comes c.args.depth c.in-Some.field-0.now c.loop-reader.reader c.next_key.new.reader there.0 ms rest key there.1 in
          let passed = c.in_ok-pass.ensures.value one.0 one.1 one.2 in
          (put c.in-Some.field-0.now one.0 there.0, rw passed one.3);
      no_longer = let shorter = read_key-shorter _ _ _ key in omega (arith, c.in_ok-pass.ensures.shorter, c.loop-reader.invariant.no_longer);
    }

pub returns-in_err-pass-clause-value : goal.returns-in_err-pass-clause-value
returns-in_err-pass-clause-value c = λ found ms rest stood.
    let key : read_key c.loop-reader.reader ≡ Some (Some c.in-Some.field-0.now, c.next_key.new.reader) = grind arith in
    let there = c.loop-reader.invariant.members found ms rest stood in
    let one = member_comes c.args.depth c.in-Some.field-0.now c.loop-reader.reader c.next_key.new.reader there.0 ms rest key there.1 in
    let fails = c.in_err-pass.ensures.value one.0 one.1 one.2 in
    let is : c.from_residual-in_err-pass.result ≡ Err c.in_err-pass.field-0.0 = search rules in
    rw is fails

pub returns-clause-value : goal.returns-clause-value
returns-clause-value c = λ found ms rest stood.
    let closed : read_key c.loop-reader.reader ≡ Some (None, c.next_key.new.reader) = grind arith in
    let there = c.loop-reader.invariant.members found ms rest stood in
    (object_ends c.args.depth c.loop-reader.reader c.next_key.new.reader there.0 ms rest closed there.1).1
