use Rattle.std.proofs.Common.{subst, sym, true≢false}
use Rattle.bep_row.proofs.plain.is_plain_as.Goals as goal
use Rattle.bep_row.specs.Plain.{AreAlike, AreKept}

pub returns-then-not-are_alike : goal.returns-then-not-are_alike
returns-then-not-are_alike c = λ passes. absurd (true≢false (sym passes))

pub returns-then-not-store_holds : goal.returns-then-not-store_holds
returns-then-not-store_holds c = λ passes. absurd (true≢false (sym passes))

pub returns : goal.returns
returns c = λ passes. record {
  first = c.args.first.now;
  alike = subst (AreAlike c.args.first.now) c.as_slice.ensures (c.are_alike.ensures.0 c.if-not-are_alike.false);
  kept = subst (AreKept c.args.row.now c.args.first.now) c.shares.ensures.value (c.are_kept.ensures passes (c.store_holds.ensures.0 c.if-not-store_holds.false));
}
