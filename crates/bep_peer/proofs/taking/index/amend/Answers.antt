use Rattle.std.proofs.Common.{◌≡◌, List, Result, Ok, Err, IfOk, IfErr, OnErr, inl, inr, sym, ap, subst, ◌∙◌}
use Rattle.bep_record.specs.declared.entry.Entry.{Entry}
use Rattle.bep_index.specs.View.{IsOld, amended}
use Rattle.bep_model.specs.Tables.{Device}
use Rattle.bep_machine.specs.Replica.{view_of}
use Rattle.bep_folder.specs.Held.{Held}
use Rattle.bep_folder.specs.Views.{unchanged, with_viewed}
use Rattle.bep_peer.specs.declared.taking.effect.Effect.{Effect}
use Rattle.bep_peer.specs.declared.taking.effect.Effect.TheVariants.{Taken}
use Rattle.bep_peer.specs.declared.error.PeerError.{PeerError}
use Rattle.bep_peer.specs.declared.error.PeerError.TheVariants.{Memory}
use Rattle.bep_peer.specs.inner.Index.{AmendsView, HasTooMany}
use Rattle.bep_peer.proofs.taking.index.amend.Goals as goal

-- a batch that fits is added, or memory is wanting
amends : (other : Device) (batch : List Entry) (old begun new : Held) (result : Result Effect PeerError) → begun ≡ unchanged old →
    (¬ IsOld (view_of old.tables other).sequence batch) → (¬ HasTooMany (amended (view_of old.tables other) batch)) →
    IfOk result (λ effect. (effect ≡ Taken) × (new ≡ with_viewed begun other (amended (view_of begun.tables other) batch))) → IfErr result (λ e. e ≡ Memory) → OnErr result (new ≡ begun) →
    AmendsView other batch old new result
amends other batch old begun new (Ok effect) same fresh few ok only err =
    inl (ap Ok ok.0, fresh, few, ok.1 ∙ ap (λ (h : Held). with_viewed h other (amended (view_of h.tables other) batch)) same)
amends other batch old begun new (Err error) same fresh few ok only err = inr (inr (inr (ap Err only, fresh, few, err ∙ same)))

pub add_copy-requires-clause-few : goal.add_copy-requires-clause-few
add_copy-requires-clause-few g c =
    let old = c.args.replica.now in
    let batch = c.args.batch.now in
    let fresh : ¬ IsOld (view_of old.tables c.args.other).sequence batch = λ is. let e = c.in-Ok.ensures.old.1 (λ apart. apart c.requires, is) in absurd (cc) in
    let few : ¬ HasTooMany (amended (view_of old.tables c.args.other) batch) = λ many. let e = c.in-Ok.ensures.full.1 (λ apart. apart c.requires, (fresh, many)) in absurd (cc) in
    subst (λ (h : Held). ¬ HasTooMany (amended (view_of h.tables c.args.other) batch)) (sym c.in-Ok.ensures.same) few

pub returns-in-Ok : goal.returns-in-Ok
returns-in-Ok g c =
    let old = c.args.replica.now in
    let batch = c.args.batch.now in
    let fresh : ¬ IsOld (view_of old.tables c.args.other).sequence batch = λ is. let e = c.in-Ok.ensures.old.1 (λ apart. apart c.requires, is) in absurd (cc) in
    let few : ¬ HasTooMany (amended (view_of old.tables c.args.other) batch) = λ many. let e = c.in-Ok.ensures.full.1 (λ apart. apart c.requires, (fresh, many)) in absurd (cc) in
    amends c.args.other batch old c.may_amend.new.self c.add_copy.new.replica c.add_copy.result c.in-Ok.ensures.same fresh few c.add_copy.ensures.ok c.add_copy.ensures.only c.add_copy.ensures.err
