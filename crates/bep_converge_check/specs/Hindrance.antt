-- What keeps a cut from converging: a reason at a place, and the order of these; what the verdict says (this project's profile).
use Rattle.std.specs.Prelude.{Bool, true, false, Option, Some, None}
use Rattle.std.specs.declared.cmp.Ordering.{Ordering}
use Rattle.std.specs.Ordering.{nat_cmp, is_lt, on, then_cmp}
use Rattle.bep_model.specs.Reasons.{Place, place_cmp}
use Rattle.bep_audit.specs.Shown.{place_shown}
use Rattle.bep_converge.specs.declared.converge_reason.ConvergeReason.{ConvergeReason}
use Rattle.bep_converge.specs.ConvergeReasons.{converge_number_of}
use Rattle.bep_converge.specs.ConvergeVerdict.{ConvergeVerdict, Converging, NotConverging}
use Rattle.bep_converge_check.specs.declared.hindrance.Hindrance as lent
use Rattle.bep_converge_check.specs.declared.checker.ConvergeVerdict as program
use Rattle.bep_converge_check.specs.declared.checker.ConvergeVerdict.TheVariants as lends

-- a reason at a place
pub record Hinder : Type 0 where
  pub reason : ConvergeReason
  pub place : Place

-- by reason, then place
abbrev pub hinder_cmp : Hinder → Hinder → Ordering
hinder_cmp = then_cmp (on (λ one. converge_number_of one.reason) nat_cmp) (on (λ one. one.place) place_cmp)

-- one whose names are lent
abbrev pub hinder_shown : lent.Hindrance → Hinder
hinder_shown one = record { reason = one.reason; place = place_shown one.spot }

-- whether one comes before the least so far; each may be missing
abbrev pub precedes : Option Hinder → Option Hinder → Bool
precedes None least = false
precedes (Some here) None = true
precedes (Some here) (Some least) = is_lt (hinder_cmp here least)

-- the verdict whose names are lent
abbrev pub converge_shown : program.ConvergeVerdict → ConvergeVerdict
converge_shown lends.Converging = Converging
converge_shown (lends.NotConverging reason folder name device) = NotConverging reason folder.now name.now device
