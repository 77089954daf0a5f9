use Rattle.std.proofs.Common.{◌≡◌, Some, None, map, false, true≢false, sym, ap, ◌∙◌}
use Rattle.bep_model.specs.declared.reason.Reason.TheVariants.{CertificateOrder}
use Rattle.bep_model.specs.Settled.{key_of}
use Rattle.bep_model.specs.Reasons.{first_disordered}
use Rattle.bep_audit.specs.Walk.{Failure, failure_shown}
use Rattle.bep_explain.specs.inner.Says.{failure_at, SaysOrder}
use Rattle.bep_gather.specs.AddFacts.{adds_none, adds_as}
use Rattle.bep_explain.proofs.OneFact.{adds_at}
use Rattle.bep_explain.proofs.collect.add_out_of_order.Goals as goal

pub returns-in-None : goal.returns-in-None
returns-in-None c =
    adds_none (SaysOrder c.args.rows.now) (map failure_shown c.args.found.now.items) (λ one key first same. let e : None ≡ Some key = c.in-None.ensures.first ∙ first in cc)

pub returns-in_ok-add_unless-in-Some : goal.returns-in_ok-add_unless-in-Some
returns-in_ok-add_unless-in-Some c =
    let rows = c.args.rows.now in
    let key = key_of c.in-Some.row.now in
    let old = map failure_shown c.args.found.now.items in
    let new = map failure_shown c.add_unless.new.found.items in
    let first : first_disordered rows ≡ Some key = sym c.in-Some.ensures.first in
    adds_as (λ (one : Failure). one ≡ failure_at CertificateOrder key None → ⊥) (SaysOrder rows) old new
    (λ one. (λ apart other is same. apart (same ∙ ap (λ k. failure_at CertificateOrder k None) (let e : Some other ≡ Some key = sym is ∙ first in cc)), λ says same. says key first same))
    (adds_at c.reasons_are_numbered.ensures.different (failure_shown c.at_row.result) (failure_at CertificateOrder key None) c.at_row.ensures ⊥ false old new (λ e. absurd (true≢false (sym e)), λ none. absurd none) c.in_ok-add_unless-in-Some.ensures)
