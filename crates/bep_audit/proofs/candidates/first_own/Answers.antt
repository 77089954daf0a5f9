use Rattle.std.proofs.Common.{sym, subst, ap, ◌∙◌, List, Contains}
use Rattle.std.specs.Option.{option_copied}
use Rattle.bep_facts.specs.Members.{not_in_none}
use Rattle.bep_choice.specs.Choice.{Candidate}
use Rattle.bep_audit.specs.Candidates.{own_by}
use Rattle.bep_audit.proofs.CandidateFacts.{owned_has}
use Rattle.bep_audit.proofs.candidates.first_own.Goals as goal

pub returns-in-Some : goal.returns-in-Some
returns-in-Some c = (
  λ e. absurd (cc),
  λ none.
      let share = c.share-item.result in
      let own = owned_has (own_by c.args.owns) c.args.shares.now share c.in-Some.own.now (c.loop-share.share-index, c.loop-share-test.true, sym c.share-item.is) (sym c.of_share.ensures ∙ ap option_copied c.in-Some.is) in
      absurd (not_in_none _ (subst (λ (candidates : List Candidate). Contains candidates (share.device, c.in-Some.own.now)) none own)),
)
