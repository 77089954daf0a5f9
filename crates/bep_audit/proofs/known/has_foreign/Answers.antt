use Rattle.std.proofs.Common.{List, ◌∙◌, sym, subst, inr, ⊎_elim, true≢false}
use Rattle.bep_tables.specs.declared.share.PeerView.{PeerView}
use Rattle.bep_audit.specs.inner.Known.{IsViewedIn}
use Rattle.bep_audit.proofs.known.has_foreign.Goals as goal

pub returns-else-contains : goal.returns-else-contains
returns-else-contains c = (
  λ viewed. inr (subst (λ (views : List PeerView). IsViewedIn views c.args.name.now) c.as_slice.ensures (c.is_viewed.ensures.0 viewed)),
  λ has. ⊎_elim
      (λ pulled. absurd (true≢false (sym (c.contains.ensures ∙ pulled) ∙ c.if-contains.false)))
      (λ viewed. c.is_viewed.ensures.1 (subst (λ (views : List PeerView). IsViewedIn views c.args.name.now) (sym c.as_slice.ensures) viewed))
      has,
)
