-- How it is shown that a row has one outcome, one line of the row after the other.
use Rattle.std.proofs.Common.{◌≡◌, ◌≢◌, ◌⊎◌, ◌∙◌, sym, subst, ⊎_elim}
use Rattle.bep_machine.specs.Answer.{Answer, OutOfMemory, Row, becomes}

-- two outcomes are one, where memory is wanting in neither
abbrev pub Same : {S : Type 0} → S → S → Answer → Answer → Type 0
Same one other answer reply = answer ≢ OutOfMemory → reply ≢ OutOfMemory → (one ≡ other) × (answer ≡ reply)

-- any two outcomes of the row are one
abbrev pub HasOneOutcome : {S : Type 0} → Row S → Type 0
HasOneOutcome {S} row = (one other : S) (answer reply : Answer) → row one answer → row other reply → Same one other answer reply

pub same_made : {S : Type 0} {made one other : S} {given answer reply : Answer} → becomes made given one answer → becomes made given other reply → Same one other answer reply
same_made made again enough enough_too = (made.0 ∙ sym again.0, made.1 ∙ sym again.1)

-- of two conditions that never hold both, the same one holds twice
pub same_case : {C D P Q R T A : Type 0} → (C → ¬ D) → (C × P) ⊎ (D × Q) → (C × R) ⊎ (D × T) → (P → R → A) → (Q → T → A) → A
same_case apart row again first second =
    ⊎_elim
    (λ here. ⊎_elim (λ too. first here.1 too.1) (λ there. absurd (apart here.0 there.0)) again)
    (λ here. ⊎_elim (λ there. absurd (apart there.0 here.0)) (λ too. second here.1 too.1) again)
    row

-- where the condition holds the first row decides, else the second
pub same_either : {C P Q R T A : Type 0} → (C × P) ⊎ ((¬ C) × Q) → (C × R) ⊎ ((¬ C) × T) → (P → R → A) → (Q → T → A) → A
same_either row again first second = same_case (λ holds fails. fails holds) row again first second

-- where the condition holds the state stays, and the answer is given; else the rest of the row decides
pub same_or : {S : Type 0} {old one other : S} {given answer reply : Answer} {C R T : Type 0} → (C × becomes old given one answer) ⊎ ((¬ C) × R) → (C × becomes old given other reply) ⊎ ((¬ C) × T) →
    (R → T → Same one other answer reply) → Same one other answer reply
same_or row again rest = same_either row again (λ refused too. same_made refused too) rest

-- a row for each guess, of which one only fits
pub same_guess : {S G : Type 0} {one other : S} {answer reply : Answer} (Fits : G → Type 0) (row : G → Row S) → ((g h : G) → Fits g → Fits h → g ≡ h) → ((g : G) → Fits g → HasOneOutcome (row g)) →
    ((g : G) × Fits g × row g one answer) → ((g : G) × Fits g × row g other reply) → Same one other answer reply
same_guess {S} {G} {one} {other} {answer} {reply} Fits row unique each (g, fits, made) (h, fits_too, made_too) =
    each g fits one other answer reply made (subst (λ x. row x other reply) (unique h g fits_too fits) made_too)
