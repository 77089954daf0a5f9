use Rattle.std.proofs.Common.{◌∙◌, IsSome, sym, ap, subst, refl}
use Rattle.std.specs.Cmp.{nat_cmp_total}
use Rattle.std.specs.FinMap as map
use Rattle.bep_facts.specs.Maps.{get-insert_here}
use Rattle.bep_peer.specs.Lent.{with_before}
use Rattle.bep_peer.proofs.BeginFacts.{given_back}
use Rattle.bep_peer.proofs.sending.begin.give_and_send.Goals as goal

pub give_back-requires : goal.give_back-requires
give_back-requires c =
    subst (λ m. IsSome (map.get m c.args.other)) (sym c.in_ok-before.ensures.ok)
    (subst (λ found. IsSome found) (sym (get-insert_here nat_cmp_total map.nat_cmp-IsAntisymmetric c.args.sessions.now c.args.other c.args.session)) refl)

pub returns-in-Err-clause-err : goal.returns-in-Err-clause-err
returns-in-Err-clause-err c = (
  c.give_back.ensures
      ∙ ap (λ m. with_before m c.args.other c.in_ok-before.before) c.in_ok-before.ensures.ok
      ∙ ap (λ before. with_before (map.insert c.args.sessions.now c.args.other c.args.session) c.args.other before) c.in_ok-before.ensures.old
      ∙ given_back c.args.sessions.now c.args.other c.args.session,
  c.in-Err.ensures.err,
)
