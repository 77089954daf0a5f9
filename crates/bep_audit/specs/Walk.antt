-- The least failure: the least reason that fails, at its first place (this project's profile).
use Rattle.std.specs.declared.cmp.Ordering.{Ordering}
use Rattle.std.specs.Ordering.{nat_cmp, on, then_cmp}
use Rattle.bep_model.specs.declared.reason.Reason.{Reason}
use Rattle.bep_model.specs.Reasons.{Place, place_cmp}
use Rattle.bep_model.specs.Verdict.{number_of}
use Rattle.bep_audit.specs.declared.failure.Failure as lends
use Rattle.bep_audit.specs.Shown.{place_shown}

-- a reason at a place
pub record Failure : Type 0 where
  pub reason : Reason
  pub place : Place

-- by reason, then place
abbrev pub failure_cmp : Failure → Failure → Ordering
failure_cmp = then_cmp (on (λ one. number_of one.reason) nat_cmp) (on (λ one. one.place) place_cmp)

-- a failure whose names are lent
abbrev pub failure_shown : lends.Failure → Failure
failure_shown one = record { reason = one.reason; place = place_shown one.spot }
