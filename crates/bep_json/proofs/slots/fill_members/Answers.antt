use Rattle.std.proofs.Common.{◌≡◌, ◌∙◌, ◌&&◌, Bool, true, false, Some, None, Err, sym, ap, ap₂, subst, rules, arith}
use Rattle.std.specs.Bool.{MatchBool}
use Rattle.json.specs.Json.{read_key}
use Rattle.json.proofs.Grammar.{read_key-shorter}
use Rattle.serde_json.specs.Data.{put}
use Rattle.serde_json.specs.Find.{get_member}
use Rattle.bep_tree.specs.Walk.{Stands, StandMembers}
use Rattle.bep_tree.specs.Names.{are_among}
use Rattle.bep_tree.proofs.Named.{put_among, stays_strange}
use Rattle.bep_tree.proofs.Walking.{member_comes, object_ends, key_comes}
use Rattle.bep_json.proofs.TakingFacts.{look_put}
use Rattle.bep_json.proofs.slots.fill_members.Goals as goal

pub returns-in_err-key-clause-value : goal.returns-in_err-key-clause-value
returns-in_err-key-clause-value g c = λ ms rest empty stood.
    let there = c.loop-key.invariant.members ms rest empty stood in
    absurd (key_comes c.args.depth c.loop-key.reader there.0 ms rest c.in_err-key.ensures.value.1 there.1)

pub returns-in_err-take-clause-value : goal.returns-in_err-take-clause-value
returns-in_err-take-clause-value g c = λ ms rest empty stood.
    let key : read_key c.loop-key.reader ≡ Some (Some c.in-Some.key.now, c.next_key.new.reader) = grind arith in
    let there = c.loop-key.invariant.members ms rest empty stood in
    let one = member_comes c.args.depth c.in-Some.key.now c.loop-key.reader c.next_key.new.reader there.0 ms rest key there.1 in
    let fails = c.in_err-take.ensures.value (λ name. get_member name there.0) one.0 one.1 there.3 one.2 in
    let is : c.from_residual-in_err-take.result ≡ Err c.in_err-take.field-0.0 = search rules in
    rw is fails

was_known : {P : Type 0} (Q : Type 0) (taken : Bool) → taken ≡ true → MatchBool taken P Q → P
was_known Q true is known = known
was_known Q false is other = cc

was_other : {Q : Type 0} (P : Type 0) (taken : Bool) → taken ≡ false → MatchBool taken P Q → Q
was_other P false is other = other
was_other P true is known = cc

-- a member of a known name is put to those found before
pub loop-key-preserved : goal.loop-key-preserved
loop-key-preserved g c =
    let key : read_key c.loop-key.reader ≡ Some (Some c.in-Some.key.now, c.next_key.new.reader) = grind arith in
    record {
      members = λ ms rest empty stood.
          let there = c.loop-key.invariant.members ms rest empty stood in
          let one = member_comes c.args.depth c.in-Some.key.now c.loop-key.reader c.next_key.new.reader there.0 ms rest key there.1 in
          let d = one.0 in
          let name = c.in-Some.key.now in
          let known = was_known _ c.in_ok-take.field-0 c.if-not-branch.false (c.in_ok-take.ensures.value (λ n. get_member n there.0) d one.1 there.3 one.2) in (
            put name d there.0,
            subst (λ ts. StandMembers c.args.depth ts (put name d there.0) ms rest) (sym known.2) one.3,
            put_among g.S.Slots.names name d there.0 ∙ ap₂ (λ a b. a && b) known.0 there.2,
            known.1 ∙ ap (g.S.Slots.known c.args.version) (look_put name d there.0),
          );
      no_longer = let shorter = read_key-shorter _ _ _ key in omega (arith, c.in_ok-take.ensures.no_longer, c.loop-key.invariant.no_longer);
    }

pub returns-in_err-pass-clause-value : goal.returns-in_err-pass-clause-value
returns-in_err-pass-clause-value g c = λ ms rest empty stood.
    let key : read_key c.loop-key.reader ≡ Some (Some c.in-Some.key.now, c.next_key.new.reader) = grind arith in
    let there = c.loop-key.invariant.members ms rest empty stood in
    let one = member_comes c.args.depth c.in-Some.key.now c.loop-key.reader c.next_key.new.reader there.0 ms rest key there.1 in
    let other = was_other _ c.in_ok-take.field-0 c.if-not-branch.true (c.in_ok-take.ensures.value (λ n. get_member n there.0) one.0 one.1 there.3 one.2) in
    let fails = c.in_err-pass.ensures.value one.0 one.1 (subst (λ ts. Stands c.args.depth ts one.0 one.1) (sym other.1) one.2) in
    let is : c.from_residual-in_err-pass.result ≡ Err c.in_err-pass.field-0.0 = search rules in
    rw is fails

pub returns-in_err-pass_members-clause-value : goal.returns-in_err-pass_members-clause-value
returns-in_err-pass_members-clause-value g c = λ ms rest empty stood.
    let key : read_key c.loop-key.reader ≡ Some (Some c.in-Some.key.now, c.next_key.new.reader) = grind arith in
    let there = c.loop-key.invariant.members ms rest empty stood in
    let one = member_comes c.args.depth c.in-Some.key.now c.loop-key.reader c.next_key.new.reader there.0 ms rest key there.1 in
    let other = was_other _ c.in_ok-take.field-0 c.if-not-branch.true (c.in_ok-take.ensures.value (λ n. get_member n there.0) one.0 one.1 there.3 one.2) in
    let passed = c.in_ok-pass.ensures.value one.0 one.1 (subst (λ ts. Stands c.args.depth ts one.0 one.1) (sym other.1) one.2) in
    let found = put c.in-Some.key.now one.0 there.0 in
    let fails = c.in_err-pass_members.ensures.value found ms rest (subst (λ ts. StandMembers c.args.depth ts found ms rest) (sym passed) one.3) in
    let is : c.from_residual-in_err-pass_members.result ≡ Err c.in_err-pass_members.field-0.0 = search rules in
    rw is fails

-- a member of another name stays, whatever comes after it
pub returns-then-not-branch-clause-value : goal.returns-then-not-branch-clause-value
returns-then-not-branch-clause-value g c = λ ms rest empty stood.
    let key : read_key c.loop-key.reader ≡ Some (Some c.in-Some.key.now, c.next_key.new.reader) = grind arith in
    let there = c.loop-key.invariant.members ms rest empty stood in
    let one = member_comes c.args.depth c.in-Some.key.now c.loop-key.reader c.next_key.new.reader there.0 ms rest key there.1 in
    let other = was_other _ c.in_ok-take.field-0 c.if-not-branch.true (c.in_ok-take.ensures.value (λ n. get_member n there.0) one.0 one.1 there.3 one.2) in
    let passed = c.in_ok-pass.ensures.value one.0 one.1 (subst (λ ts. Stands c.args.depth ts one.0 one.1) (sym other.1) one.2) in
    let found = put c.in-Some.key.now one.0 there.0 in
    let strange : are_among g.S.Slots.names found ≡ false = put_among g.S.Slots.names c.in-Some.key.now one.0 there.0 ∙ ap (λ b. b && are_among g.S.Slots.names there.0) other.0 in
    let all_passed = c.in_ok-pass_members.ensures.value found ms rest (subst (λ ts. StandMembers c.args.depth ts found ms rest) (sym passed) one.3) in
    (ap (are_among g.S.Slots.names) one.3.3 ∙ stays_strange g.S.Slots.names one.3.1 found strange, all_passed)

pub returns-clause-value : goal.returns-clause-value
returns-clause-value g c = λ ms rest empty stood.
    let closed : read_key c.loop-key.reader ≡ Some (None, c.next_key.new.reader) = grind arith in
    let there = c.loop-key.invariant.members ms rest empty stood in
    let ends = object_ends c.args.depth c.loop-key.reader c.next_key.new.reader there.0 ms rest closed there.1 in
    ((ap (are_among g.S.Slots.names) ends.0 ∙ there.2, there.3 ∙ ap (λ found. g.S.Slots.known c.args.version (λ name. get_member name found)) (sym ends.0)), ends.1)
