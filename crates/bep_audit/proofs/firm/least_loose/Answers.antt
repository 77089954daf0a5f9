use Rattle.std.proofs.Common.{◌≡◌, ◌∙◌, cond, option_map, sym, ap}
use Rattle.std.proofs.lemmas.Bool.{cond-true, cond-false}
use Rattle.bep_audit.specs.Loose.{loose_shown, precedes}
use Rattle.bep_audit.proofs.LooseFacts.{nothing_asked, asked_goes_on, all_asked}
use Rattle.bep_audit.proofs.firm.least_loose.Goals as goal
use Rattle.bep_audit.proofs.firm.least_loose.Goals.{then-precedes, else-precedes}

pub loop-entry-init : goal.loop-entry-init
loop-entry-init c = nothing_asked c.args.rows.now

pub loop-entry-preserved : goal.loop-entry-preserved
loop-entry-preserved c =
    let chosen : option_map loose_shown c.if-precedes.least ≡ cond (precedes (option_map loose_shown c.loose_at-here.result) (option_map loose_shown c.loop-entry.least)) (option_map loose_shown c.loose_at-here.result) (option_map loose_shown c.loop-entry.least) =
    elim c.if-precedes.branch [
      | then-precedes w ↦ ap (option_map loose_shown) w.least-is ∙ sym (cond-true _ _ _ (sym c.precedes.ensures ∙ w.if-precedes.true))
      | else-precedes w ↦ ap (option_map loose_shown) w.least-is ∙ sym (cond-false _ _ _ (sym c.precedes.ensures ∙ w.if-precedes.false))
    ] in
    asked_goes_on c.args.rows.now c.args.table.now c.loop-entry.entry-index c.entry-item.result c.loop-entry-test.true c.entry-item.is
    (option_map loose_shown c.loop-entry.least) (option_map loose_shown c.loose_at-here.result) (option_map loose_shown c.if-precedes.least)
    c.loop-entry.invariant c.loose_at-here.ensures chosen

pub returns : goal.returns
returns c =
    all_asked c.args.rows.now c.args.table.now c.loop-entry.entry-index c.loop-entry-test.false (option_map loose_shown c.loop-entry.least) c.loop-entry.invariant
