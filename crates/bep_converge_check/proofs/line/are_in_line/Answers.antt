use Rattle.std.proofs.Common.{ℕ, List, sym, subst, refl, true≢false, ◌∙◌, arith}
use Rattle.bep_record.specs.Vector.{IsAtMost}
use Rattle.bep_converge_check.specs.inner.Weight.{record_of}
use Rattle.bep_converge_check.proofs.LineFacts.{none_yet, ascend_more, not_in_line, in_line_from}
use Rattle.bep_converge_check.proofs.line.are_in_line.Goals as goal

pub loop-place-init : goal.loop-place-init
loop-place-init c = none_yet c.args.sorted.now

pub loop-place-preserved : goal.loop-place-preserved
loop-place-preserved c =
    ascend_more c.args.sorted.now c.loop-place.place (omega arith) c.index-sorted-place.result c.index-sorted-place-in-loop-place.result (omega arith) c.index-sorted-place.is c.index-sorted-place-in-loop-place.is
    (subst (λ (u : List (ℕ × ℕ)). IsAtMost u (record_of c.index-sorted-place-in-loop-place.result).version) c.version-one.ensures.value
    (subst (λ (v : List (ℕ × ℕ)). IsAtMost c.version-one.result.now v) c.version-next.ensures.value (c.is_at_most.ensures.0 c.if-not-is_at_most.false)))
    c.loop-place.invariant

pub returns-then-not-is_at_most : goal.returns-then-not-is_at_most
returns-then-not-is_at_most c = (
  λ e. absurd (true≢false (sym e)),
  λ in_line.
      absurd
      (not_in_line c.args.sorted.now c.loop-place.place (omega arith) c.index-sorted-place.result c.index-sorted-place-in-loop-place.result (omega arith) c.index-sorted-place.is c.index-sorted-place-in-loop-place.is
      c.requires c.version-one.ensures.well_formed c.version-next.ensures.well_formed
      (λ (within : IsAtMost (record_of c.index-sorted-place.result).version (record_of c.index-sorted-place-in-loop-place.result).version).
      true≢false (sym (c.is_at_most.ensures.1
      (subst (λ (u : List (ℕ × ℕ)). IsAtMost u c.version-next.result.now) (sym c.version-one.ensures.value)
      (subst (λ (v : List (ℕ × ℕ)). IsAtMost (record_of c.index-sorted-place.result).version v) (sym c.version-next.ensures.value) within))) ∙ c.if-not-is_at_most.true))
      in_line),
)

pub returns : goal.returns
returns c = (λ _. in_line_from c.args.sorted.now c.loop-place.place (omega arith) c.loop-place.invariant, λ _. refl)
