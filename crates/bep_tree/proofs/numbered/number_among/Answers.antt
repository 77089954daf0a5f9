use Rattle.std.proofs.Common.{◌≡◌, ◌∙◌, ◌-◌, true, false, cond, None, Some, sym, ap, arith, rules}
use Rattle.std.specs.Str.{bytes_eq}
use Rattle.json.specs.Json as json
use Rattle.json.specs.Json.{members, value}
use Rattle.json.proofs.Grammar.{read_key-shorter, members_end, members_no_key}
use Rattle.bep_tree.specs.inner.Numbered.{found_among}
use Rattle.bep_tree.proofs.NumberedFacts.{found_more, found_none}
use Rattle.bep_tree.proofs.numbered.number_among.Goals as goal

pub returns-in_err-number-in-Ok-Some : goal.returns-in_err-number-in-Ok-Some
returns-in_err-number-in-Ok-Some c =
    let l = c.loop-key in
    let k = c.in-Ok-Some.key.now in
    let s = c.next_key.new.self in
    let key : json.read_key l.reader ≡ Some (Some k, s) = grind arith in
    let none = l.invariant.2 ∙ found_none (value c.args.depth) c.args.name.now l.invariant.0 l.reader s k l.found key c.in_err-number-in-Ok-Some.ensures.value in
    let made : c.from_residual.result ≡ None = search rules in
    rw made none

pub loop-key-preserved-then-eq : goal.loop-key-preserved-then-eq
loop-key-preserved-then-eq c =
    let l = c.loop-key in
    let n = l.invariant.0 in
    let k = c.in-Ok-Some.key.now in
    let s = c.next_key.new.self in
    let name = c.args.name.now in
    let x = c.in_ok-number-in-Ok-Some.number in
    let rest = c.pass_number.new.reader in
    let key : json.read_key l.reader ≡ Some (Some k, s) = grind arith in
    let less = read_key-shorter l.reader (Some k) s key in
    let lesser = c.in_ok-number-in-Ok-Some.ensures.shorter in
    let same : bytes_eq k name ≡ true = sym c.eq.ensures ∙ c.if-eq.true in (
      n - 1,
      omega (arith, l.invariant.1),
      l.invariant.2
          ∙ found_more (value c.args.depth) name n l.reader s rest k l.found x (omega (arith, l.invariant.1)) key c.in_ok-number-in-Ok-Some.ensures.value
          ∙ ap (λ b. found_among name (cond b x l.found) (members (value c.args.depth) (n - 1) rest)) same,
    )

pub loop-key-preserved : goal.loop-key-preserved
loop-key-preserved c =
    let l = c.loop-key in
    let n = l.invariant.0 in
    let k = c.in-Ok-Some.key.now in
    let s = c.next_key.new.self in
    let name = c.args.name.now in
    let x = c.in_ok-number-in-Ok-Some.number in
    let rest = c.pass_number.new.reader in
    let key : json.read_key l.reader ≡ Some (Some k, s) = grind arith in
    let less = read_key-shorter l.reader (Some k) s key in
    let lesser = c.in_ok-number-in-Ok-Some.ensures.shorter in
    let other : bytes_eq k name ≡ false = sym c.eq.ensures ∙ c.if-eq.false in (
      n - 1,
      omega (arith, l.invariant.1),
      l.invariant.2
          ∙ found_more (value c.args.depth) name n l.reader s rest k l.found x (omega (arith, l.invariant.1)) key c.in_ok-number-in-Ok-Some.ensures.value
          ∙ ap (λ b. found_among name (cond b x l.found) (members (value c.args.depth) (n - 1) rest)) other,
    )

pub returns-in-Ok-None : goal.returns-in-Ok-None
returns-in-Ok-None c =
    let l = c.loop-key in
    l.invariant.2 ∙ ap (found_among c.args.name.now l.found) (members_end (value c.args.depth) l.invariant.0 l.reader c.next_key.new.self l.invariant.1 (grind arith))

pub returns-in-Err : goal.returns-in-Err
returns-in-Err c =
    let l = c.loop-key in
    l.invariant.2 ∙ ap (found_among c.args.name.now l.found) (members_no_key (value c.args.depth) l.invariant.0 l.reader c.in-Err.ensures.value)
