-- A step that can be done is done, unless a call of a store fails or memory is wanting.
use Rattle.std.proofs.Common.{◌≡◌, ◌∙◌, ℕ, nat_lt, Bool, true, false, List, ◌∷◌, Option, Some, None, IsSome, is_some, Result, Ok, Err, refl, sym, ap, subst, if◌then◌else◌}
use Rattle.bep_model.specs.Tables.{Device}
use Rattle.bep_machine.specs.declared.moved.Moved.{Moved}
use Rattle.bep_machine.specs.declared.moved.Moved.TheVariants.{Changed}
use Rattle.bep_machine.specs.declared.refusal.Refusal.{Refusal}
use Rattle.bep_machine.specs.declared.step.Step.{Step}
use Rattle.bep_machine.specs.declared.step.Step.TheVariants.{Connect}
use Rattle.bep_machine.specs.Answer.{Done, Refused as Refuses}
use Rattle.bep_machine.specs.Cluster.{Cluster}
use Rattle.bep_machine.specs.Determined.{StepsAreDetermined}
use Rattle.bep_machine.specs.Sound.{IsSound}
use Rattle.bep_machine.specs.Steps.{Event, IsStep, IsRun}
use Rattle.bep_core.specs.Applying.{failed_by, failed_in, maker_of}
use Rattle.bep_peer.specs.Member.{Member}
use Rattle.bep_converge.specs.Bring.{done, connect}
use Rattle.bep_rounds.specs.Rounds.{HasStoreFault, IsOutside, IfMade}
use Rattle.bep_rounds.specs.declared.error.RoundError.{RoundError}
use Rattle.bep_rounds.specs.declared.error.RoundError.TheVariants.{Memory}

-- the device whose store failed is there
pub fault_of : (maker : Option Device) (members : List Member) → IsSome (failed_in maker members) → HasStoreFault members
fault_of None members some = absurd (cc)
fault_of (Some device) members some = (device, some)

none_in : (failed : Option ℕ) → is_some failed ≡ false → failed ≡ None
none_in None not = refl
none_in (Some call) not = absurd (cc)

-- no call failed
pub none_failed : (maker : Option Device) (step : Step) (members : List Member) (failed : Option ℕ) (some : Bool) → maker ≡ maker_of step → failed ≡ failed_in maker members → some ≡ is_some failed → some ≡ false → failed_by step members ≡ None
none_failed maker step members failed some made is tells not =
    ap (λ (m : Option Device). failed_in m members) (sym made) ∙ sym is ∙ none_in failed (sym tells ∙ not)

module _ (determined : StepsAreDetermined) (step : Step) (failed : Option ℕ) (none : failed ≡ None) (old new : Cluster) (sound : IsSound old) (more : List Event) (later : Cluster) (run : IsRun old (done step ∷ more) later) where
  -- it was done, and so the rest of the run can be made
  pub goes_on : (moved : Moved) → IsStep step failed old new (Done moved) → IsRun new more later
  goes_on moved made =
      let same = determined step None old new run.0 (Done moved) (Done Changed) sound (subst (λ (f : Option ℕ). IsStep step f old new (Done moved)) none made) run.1 (λ e. cc) (λ e. cc) in
      subst (λ (cluster : Cluster). IsRun cluster more later) (sym same.0) run.2

  -- it wasn't refused
  pub not_refused : (refusal : Refusal) → ¬ IsStep step failed old new (Refuses refusal)
  not_refused refusal made =
      let same = determined step None old new run.0 (Refuses refusal) (Done Changed) sound (subst (λ (f : Option ℕ). IsStep step f old new (Refuses refusal)) none made) run.1 (λ e. cc) (λ e. cc) in
      let never = same.1 in
      cc

-- which of the two is first
pub connect_below : (device other : Device) → nat_lt device other ≡ true → connect device other ≡ Connect device other
connect_below device other below = ap (λ (b : Bool). if b then Connect device other else Connect other device) below

pub connect_above : (device other : Device) → nat_lt device other ≡ false → connect device other ≡ Connect other device
connect_above device other above = ap (λ (b : Bool). if b then Connect device other else Connect other device) above

-- what follows from what was made
pub if_made : (One Two : Type 0) (members : List Member) (result : Result (Unit {0}) RoundError) → IfMade members result One → (One → Two) → IfMade members result Two
if_made One Two members (Ok made) so follows = follows so
if_made One Two members (Err error) so follows = so

-- an error from outside is all that was made
pub at_err : (so : Type 0) (members : List Member) (result : Result (Unit {0}) RoundError) (error : RoundError) → result ≡ Err error → IsOutside members error → IfMade members result so
at_err so members result error is outside = subst (λ (r : Result (Unit {0}) RoundError). IfMade members r so) (sym is) outside

-- want of memory comes from outside
pub memory_outside : (members : List Member) (error : RoundError) → error ≡ Memory → IsOutside members error
memory_outside members error is = subst (λ (e : RoundError). IsOutside members e) (sym is) tt
