use Rattle.std.proofs.Common.{true, cond, not, take, Some, None, ap, ◌∙◌}
use Rattle.std.specs.BTreeSet.{contains}
use Rattle.std.specs.Ordering.{eq_by_cmp}
use Rattle.std.specs.List.{list_any}
use Rattle.bep_document.specs.faults.Judge.{by_key}
use Rattle.bep_document.proofs.faults.JudgeFacts.{first_is_here, first_is_behind}
use Rattle.bep_document.proofs.faults.SeenFacts.{seen_next, was_seen, found_by, ties_with}
use Rattle.bep_document.proofs.faults.judge.first_by_seen.Goals as goal

pub returns-in-Some : goal.returns-in-Some
returns-in-Some g c =
    let same = g.J.Key.PartialEq.eq in
    let key_of = g.J.JudgeKeyed.key_of in
    let fault_at = g.J.JudgeKeyed.fault_at c.args.judge.now in
    let xs = c.args.items.now in
    let i = c.loop-item.item-index in
    let x = c.item-item.result in
    let is_known = λ (q : g.row.J-Key.Denot). list_any (λ known. same (key_of known) q) (take i xs) in
    let again = was_seen (contains g.J.Key.Ord.cmp c.loop-item.seen) is_known c.in_ok-key_of.field-0 (key_of x) c.in_ok-is_new.is_new c.in_ok-is_new.ensures.added c.in_ok-key_of.ensures c.loop-item.invariant.seen in
    let here = found_by (λ b. fault_at b x) (not c.in_ok-is_new.is_new) (is_known (key_of x)) c.in_ok-fault.field-0 (Some c.in-Some.fault) c.in_ok-fault.ensures again c.in-Some.is in
    first_is_here (by_key same key_of fault_at) xs i x c.in-Some.fault c.loop-item-test.true c.item-item.is c.loop-item.invariant.first here

pub loop-item-preserved : goal.loop-item-preserved
loop-item-preserved g c =
    let same = g.J.Key.PartialEq.eq in
    let key_of = g.J.JudgeKeyed.key_of in
    let fault_at = g.J.JudgeKeyed.fault_at c.args.judge.now in
    let before = contains g.J.Key.Ord.cmp c.loop-item.seen in
    let after = contains g.J.Key.Ord.cmp c.insert.new.self in
    let xs = c.args.items.now in
    let i = c.loop-item.item-index in
    let x = c.item-item.result in
    let is_known = λ (q : g.row.J-Key.Denot). list_any (λ known. same (key_of known) q) (take i xs) in
    let again = was_seen before is_known c.in_ok-key_of.field-0 (key_of x) c.in_ok-is_new.is_new c.in_ok-is_new.ensures.added c.in_ok-key_of.ensures c.loop-item.invariant.seen in
    let none = found_by (λ b. fault_at b x) (not c.in_ok-is_new.is_new) (is_known (key_of x)) c.in_ok-fault.field-0 None c.in_ok-fault.ensures again c.in-None.is in
    let ties = ties_with (eq_by_cmp g.J.Key.Ord.cmp) same c.in_ok-key_of.field-0 (key_of x) c.in_ok-key_of.ensures g.met.J.Key.Ord.matches_eq in
    let grown = λ (q : g.row.J-Key.Denot). c.in_ok-is_new.ensures.updates.0 q ∙ ap (λ b. cond b true (before q)) (ties q) in
    record {
      first = first_is_behind (by_key same key_of fault_at) xs i x c.loop-item-test.true c.item-item.is c.loop-item.invariant.first none;
      seen = seen_next same key_of xs i x before after c.loop-item-test.true c.item-item.is c.loop-item.invariant.seen grown;
    }
