use Rattle.std.proofs.Common.{refl, sym, subst}
use Rattle.bep_machine.specs.Exchange.{NamesShared}
use Rattle.bep_peer.specs.Member.{tables_of}
use Rattle.bep_peer.proofs.SharingFacts.{drop_here}
use Rattle.bep_peer.proofs.peer.Peer.shares_all.Goals as goal

pub returns-then-not-shares : goal.returns-then-not-shares
returns-then-not-shares g c = (
  λ yes. absurd (cc),
  λ all. absurd (
      let rest =
      subst (NamesShared c.args.other (tables_of c.args.self.now)) (drop_here c.args.named.now c.loop-one.one-index c.one-item.result c.loop-one-test.true c.one-item.is) (c.loop-one.invariant.1 all) in
      let yes = c.if-not-shares.ensures.1 rest.0 in cc
      ),
)

pub loop-one-preserved : goal.loop-one-preserved
loop-one-preserved g c =
    let is = drop_here c.args.named.now c.loop-one.one-index c.one-item.result c.loop-one-test.true c.one-item.is in (
      λ rest. c.loop-one.invariant.0 (subst (NamesShared c.args.other (tables_of c.args.self.now)) (sym is) (c.if-not-shares.ensures.0 refl, rest)),
      λ all. (subst (NamesShared c.args.other (tables_of c.args.self.now)) is (c.loop-one.invariant.1 all)).1,
    )
