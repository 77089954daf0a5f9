use Rattle.std.proofs.Common.{◌≡◌, ◌∙◌, Some, None, IsTrue, sym, ap, subst}
use Rattle.std.specs.FinMap.{get}
use Rattle.std.specs.Option.{option_copied}
use Rattle.bep_peer.specs.Member.{Member}
use Rattle.bep_peer.proofs.SharingFacts.{shared_with, held_shares, not_held}
use Rattle.bep_peer.proofs.peer.Peer.shares.Goals as goal

pub returns-in-Some : goal.returns-in-Some
returns-in-Some g c =
    let has = subst (λ (member : Member). get member.folders c.args.folder.now ≡ Some c.in-Some.replica.now) c.self.view_is (sym c.get.ensures ∙ ap option_copied c.in-Some.is) in
    let shared = c.is_shared_with.ensures in (
      λ yes. shared_with c.args.self.now c.args.folder.now c.args.other c.in-Some.replica.now has (subst (λ b. IsTrue b) shared yes),
      λ shares. subst (λ b. IsTrue b) (sym shared) (held_shares c.args.self.now c.args.folder.now c.args.other c.in-Some.replica.now has shares),
    )

pub returns-in-None : goal.returns-in-None
returns-in-None g c =
    let none = subst (λ (member : Member). get member.folders c.args.folder.now ≡ None) c.self.view_is (sym c.get.ensures ∙ ap option_copied c.in-None.is) in (
      λ no. absurd (cc),
      λ shares. absurd (not_held c.args.self.now c.args.folder.now c.args.other none shares),
    )
