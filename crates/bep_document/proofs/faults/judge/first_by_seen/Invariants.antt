use Rattle.std.proofs.Common.{◌≡◌, [], take, drop}
use Rattle.std.specs.List.{list_any}
use Rattle.std.specs.BTreeSet.{contains}
use Rattle.bep_document.specs.faults.Judge.{first_in, by_key}
use Rattle.bep_document.proofs.faults.judge.first_by_seen.Given as goal

-- what is first among all is first among the rest, and the keys so far were seen
abbrev pub invariant-loop-item : goal.invariant-loop-item
invariant-loop-item g l = record {
  first : first_in (by_key g.J.Key.PartialEq.eq g.J.JudgeKeyed.key_of (g.J.JudgeKeyed.fault_at l.judge)) (take l.item-index l.items) (drop l.item-index l.items) ≡ first_in (by_key g.J.Key.PartialEq.eq g.J.JudgeKeyed.key_of (g.J.JudgeKeyed.fault_at l.judge)) [] l.items;
  seen : (q : g.row.J-Key.Denot) → contains g.J.Key.Ord.cmp l.seen q ≡ list_any (λ known. g.J.Key.PartialEq.eq (g.J.JudgeKeyed.key_of known) q) (take l.item-index l.items);
}
