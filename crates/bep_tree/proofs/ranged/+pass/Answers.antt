use Rattle.std.proofs.Common.{◌≡◌, ◌∙◌, ◌-◌, ◌<◌, [], ◌∷◌, length, ltb, Some, None, MatchBool, refl, sym, ap, ap₂, subst, arith}
use Rattle.json.specs.Json as json
use Rattle.json.specs.Json.{value}
use Rattle.json.specs.Reads.{token_of}
use Rattle.json.specs.Token.{Token}
use Rattle.json.proofs.Grammar.{value_is, value-begin_array, value-begin_object, read_key-shorter, items_end, members_end, members_no_key}
use Rattle.bep_tree.specs.inner.InRange.{is_in_range, items_in_range, members_in_range}
use Rattle.bep_tree.specs.inner.Passed.{after, after_value, after_items, after_members}
use Rattle.bep_tree.proofs.Passing.{after-mapped, pass_item, no_item, pass_member, no_member}
use Rattle.bep_tree.proofs.ranged.+pass.Goals as goal

pub pass_items-returns-then-not-pass_value-clause-passed : goal.pass_items-returns-then-not-pass_value-clause-passed
pass_items-returns-then-not-pass_value-clause-passed t c =
    let l = c.loop-reader in
    let going : (json.after_end_array l.reader ≡ None) × (c.take_end_array.new.self ≡ l.reader) = grind arith in
    l.invariant.2 ∙ no_item (value c.args.depth) l.invariant.0 l.reader going.0 (rw (← going.1) c.if-not-pass_value.ensures.passed)

pub pass_items-loop-reader-preserved : goal.pass_items-loop-reader-preserved
pass_items-loop-reader-preserved t c =
    let l = c.loop-reader in
    let n = l.invariant.0 in
    let going : (json.after_end_array l.reader ≡ None) × (c.take_end_array.new.self ≡ l.reader) = grind arith in
    let less : length c.pass_value.new.reader < length l.reader = rw (← going.1) (c.if-not-pass_value.ensures.shorter refl) in
    (n - 1, omega (arith, l.invariant.1), l.invariant.2 ∙ pass_item (value c.args.depth) n l.reader _ (omega (arith, l.invariant.1)) going.0 (rw (← going.1) c.if-not-pass_value.ensures.passed), omega (arith, l.invariant.3))

pub pass_items-returns-clause-passed : goal.pass_items-returns-clause-passed
pass_items-returns-clause-passed t c =
    let l = c.loop-reader in
    l.invariant.2 ∙ ap (after items_in_range) (items_end (value c.args.depth) l.invariant.0 l.reader c.take_end_array.new.self l.invariant.1 (grind arith))

pub pass_members-returns-then-not-pass_value-clause-passed : goal.pass_members-returns-then-not-pass_value-clause-passed
pass_members-returns-then-not-pass_value-clause-passed t c =
    let l = c.loop-reader in
    let k = c.in-Ok-Some.field-0-0.now in
    let s = c.next_key.new.self in
    let key : json.read_key l.reader ≡ Some (Some k, s) = grind arith in
    l.invariant.2 ∙ no_member (value c.args.depth) l.invariant.0 l.reader s k key c.if-not-pass_value.ensures.passed

pub pass_members-loop-reader-preserved : goal.pass_members-loop-reader-preserved
pass_members-loop-reader-preserved t c =
    let l = c.loop-reader in
    let n = l.invariant.0 in
    let k = c.in-Ok-Some.field-0-0.now in
    let s = c.next_key.new.self in
    let key : json.read_key l.reader ≡ Some (Some k, s) = grind arith in
    let less = read_key-shorter l.reader (Some k) s key in
    let lesser : length c.pass_value.new.reader < length s = c.if-not-pass_value.ensures.shorter refl in
    (n - 1, omega (arith, l.invariant.1), l.invariant.2 ∙ pass_member (value c.args.depth) n l.reader s _ k (omega (arith, l.invariant.1)) key c.if-not-pass_value.ensures.passed, omega (arith, l.invariant.3))

pub pass_members-returns-in-Ok-None-clause-passed : goal.pass_members-returns-in-Ok-None-clause-passed
pass_members-returns-in-Ok-None-clause-passed t c =
    let l = c.loop-reader in
    l.invariant.2 ∙ ap (after members_in_range) (members_end (value c.args.depth) l.invariant.0 l.reader c.next_key.new.self l.invariant.1 (grind arith))

pub pass_members-returns-in-Err-clause-passed : goal.pass_members-returns-in-Err-clause-passed
pass_members-returns-in-Err-clause-passed t c =
    let l = c.loop-reader in
    l.invariant.2 ∙ ap (after members_in_range) (members_no_key (value c.args.depth) l.invariant.0 l.reader c.in-Err.ensures.value)

pub pass_value-returns-in-None-clause-passed : goal.pass_value-returns-in-None-clause-passed
pass_value-returns-in-None-clause-passed t c =
    let empty : c.args.reader.now ≡ [] = grind arith in
    ap (after_value c.args.depth) empty ∙ ap (after is_in_range) (value_is c.args.depth [])

pub pass_begun-returns-in-Number-clause-passed : goal.pass_begun-returns-in-Number-clause-passed
pass_begun-returns-in-Number-clause-passed t c = rw (value_is c.args.depth (token_of c.args.token ∷ c.args.reader.now)) (grind arith)

pub pass_begun-returns-in-String-clause-passed : goal.pass_begun-returns-in-String-clause-passed
pass_begun-returns-in-String-clause-passed t c = rw (value_is c.args.depth (token_of c.args.token ∷ c.args.reader.now)) (grind arith)

pub pass_begun-returns-in-EndObject-clause-passed : goal.pass_begun-returns-in-EndObject-clause-passed
pass_begun-returns-in-EndObject-clause-passed t c = rw (value_is c.args.depth (token_of c.args.token ∷ c.args.reader.now)) (grind arith)

pub pass_begun-returns-then-depth-gt0-clause-passed : goal.pass_begun-returns-then-depth-gt0-clause-passed
pass_begun-returns-then-depth-gt0-clause-passed t c =
    let opened : token_of c.args.token ∷ c.args.reader.now ≡ Token.begin_array ∷ c.args.reader.now = ap (λ k. token_of k ∷ c.args.reader.now) c.in-BeginArray.is in
    let same : after_value c.args.depth (token_of c.args.token ∷ c.args.reader.now) ≡ after_items (c.args.depth - 1) c.args.reader.now =
    ap (after_value c.args.depth) opened ∙ ap (after is_in_range) (value-begin_array c.args.depth c.args.reader.now (omega arith)) ∙ after-mapped items_in_range is_in_range json.array (λ js. refl) (json.items (value (c.args.depth - 1)) (length c.args.reader.now) c.args.reader.now) in
    rw same c.pass_items.ensures.passed

pub pass_begun-returns-else-depth-gt0-clause-passed : goal.pass_begun-returns-else-depth-gt0-clause-passed
unfolding value
pass_begun-returns-else-depth-gt0-clause-passed t c =
    let none : c.args.depth ≡ 0 = omega arith in
    let fails : after_value c.args.depth (token_of c.args.token ∷ c.args.reader.now) ≡ None = ap₂ after_value none (ap (λ k. token_of k ∷ c.args.reader.now) c.in-BeginArray.is) in
    subst (λ d. MatchBool (ltb 0 d) (after_value c.args.depth (token_of c.args.token ∷ c.args.reader.now) ≡ Some c.args.reader.now) (after_value c.args.depth (token_of c.args.token ∷ c.args.reader.now) ≡ None)) (sym none) fails

pub pass_begun-returns-then-depth-gt0-2-clause-passed : goal.pass_begun-returns-then-depth-gt0-2-clause-passed
pass_begun-returns-then-depth-gt0-2-clause-passed t c =
    let opened : token_of c.args.token ∷ c.args.reader.now ≡ Token.begin_object ∷ c.args.reader.now = ap (λ k. token_of k ∷ c.args.reader.now) c.in-BeginObject.is in
    let same : after_value c.args.depth (token_of c.args.token ∷ c.args.reader.now) ≡ after_members (c.args.depth - 1) c.args.reader.now =
    ap (after_value c.args.depth) opened ∙ ap (after is_in_range) (value-begin_object c.args.depth c.args.reader.now (omega arith)) ∙ after-mapped members_in_range is_in_range json.object (λ ms. refl) (json.members (value (c.args.depth - 1)) (length c.args.reader.now) c.args.reader.now) in
    rw same c.pass_members.ensures.passed

pub pass_begun-returns-else-depth-gt0-2-clause-passed : goal.pass_begun-returns-else-depth-gt0-2-clause-passed
unfolding value
pass_begun-returns-else-depth-gt0-2-clause-passed t c =
    let none : c.args.depth ≡ 0 = omega arith in
    let fails : after_value c.args.depth (token_of c.args.token ∷ c.args.reader.now) ≡ None = ap₂ after_value none (ap (λ k. token_of k ∷ c.args.reader.now) c.in-BeginObject.is) in
    subst (λ d. MatchBool (ltb 0 d) (after_value c.args.depth (token_of c.args.token ∷ c.args.reader.now) ≡ Some c.args.reader.now) (after_value c.args.depth (token_of c.args.token ∷ c.args.reader.now) ≡ None)) (sym none) fails
