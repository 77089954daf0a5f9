use Rattle.std.proofs.Common.{IsTrue}
use Rattle.bep_tables.specs.Listed.{listed}
use Rattle.bep_audit.specs.Loose.{MeetsFirm}
use Rattle.bep_audit.proofs.LooseFacts.{asked_as_met, asked_in_vain}
use Rattle.bep_audit.proofs.firm.loose_at.Goals as goal

pub returns-then-meets_rows : goal.returns-then-meets_rows
returns-then-meets_rows c = asked_as_met c.args.rows.now (listed c.args.entry.now) (c.meets_rows.ensures.0 c.if-meets_rows.true)

pub returns : goal.returns
returns c =
    asked_in_vain c.args.rows.now (listed c.args.entry.now)
    (λ (meets : MeetsFirm c.args.rows.now (listed c.args.entry.now)). let holds : IsTrue c.meets_rows.result = c.meets_rows.ensures.1 meets in let fails = c.if-meets_rows.false in absurd (cc))
    _ c.loosening_of.ensures
