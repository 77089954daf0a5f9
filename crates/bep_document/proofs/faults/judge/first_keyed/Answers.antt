use Rattle.std.proofs.Common.{[], sym}
use Rattle.bep_document.proofs.faults.RisingFacts.{first_of_rising}
use Rattle.bep_document.proofs.faults.judge.first_keyed.Goals as goal

-- no key stands twice where they rise
pub returns-then-keys_rise : goal.returns-then-keys_rise
returns-then-keys_rise g c =
    let same = g.J.Key.PartialEq.eq in
    let key_of = g.J.JudgeKeyed.key_of in
    let rise = c.keys_rise.ensures.0 c.if-keys_rise.true in
    let is = first_of_rising g.J.Key.Ord.cmp key_of same g.met.J.Key.Ord.matches_eq (g.J.JudgeKeyed.fault_at c.args.judge.now) [] c.args.items.now rise in
    rw (sym is) c.first_of_distinct.ensures
