-- What an exit status of 0 says of an answer.
use Rattle.std.proofs.Common.{◌≡◌, refl, arith}
use Rattle.std.specs.Prelude.{Result, Ok, Err, IfOk}
use Rattle.bep_report.specs.declared.error.ReportError.{ReportError}
use Rattle.bep_report.specs.declared.error.ReportError.TheVariants.{Memory, Read, Write}
use Rattle.bep_answer.specs.declared.outcome.Firmness.{Firmness}
use Rattle.bep_answer.specs.declared.outcome.Firmness.TheVariants as firmness
use Rattle.bep_answer.specs.declared.outcome.Outcome.{Outcome}
use Rattle.bep_answer.specs.declared.outcome.Outcome.TheVariants as outcomes
use Rattle.bep_answer.specs.Status.{firm_status_of, status_of, without_hint}

settled_at : {P : Type 0} (outcome : Outcome) → (outcome ≡ outcomes.Settled → P) → status_of (Ok outcome) ≡ 0 → P
settled_at outcomes.Settled says zero = says refl
settled_at outcomes.NotSettled says zero = absurd (omega (arith, zero))
settled_at outcomes.Refused says zero = absurd (omega (arith, zero))

firm_at : {P : Type 0} (outcome : Firmness) → (outcome ≡ firmness.Firm → P) → firm_status_of (Ok outcome) ≡ 0 → P
firm_at firmness.Firm says zero = says refl
firm_at firmness.NotFirm says zero = absurd (omega (arith, zero))
firm_at firmness.Refused says zero = absurd (omega (arith, zero))

module _ {H P : Type 0} where
  -- it was settled
  pub settled_by_status : (answer : Result (Outcome × H) ReportError) → IfOk answer (λ told. told.0 ≡ outcomes.Settled → P) → status_of (without_hint answer) ≡ 0 → P
  settled_by_status (Ok told) says zero = settled_at told.0 says zero
  settled_by_status (Err Memory) says zero = absurd (omega (arith, zero))
  settled_by_status (Err Read) says zero = absurd (omega (arith, zero))
  settled_by_status (Err Write) says zero = absurd (omega (arith, zero))

  -- it was firm
  pub firm_by_status : (answer : Result (Firmness × H) ReportError) → IfOk answer (λ told. told.0 ≡ firmness.Firm → P) → firm_status_of (without_hint answer) ≡ 0 → P
  firm_by_status (Ok told) says zero = firm_at told.0 says zero
  firm_by_status (Err Memory) says zero = absurd (omega (arith, zero))
  firm_by_status (Err Read) says zero = absurd (omega (arith, zero))
  firm_by_status (Err Write) says zero = absurd (omega (arith, zero))
