use Rattle.std.proofs.Common.{List, ◌∙◌, sym, subst, inl, inr, ⊎_elim, true≢false}
use Rattle.bep_tables.specs.Cut.{shares_of}
use Rattle.bep_tables.specs.declared.link.LinkState.{LinkState}
use Rattle.bep_tables.specs.declared.share.Share.{Share}
use Rattle.bep_audit.specs.inner.Known.{IsHeldIn, IsOnItsWay}
use Rattle.bep_audit.proofs.CutFacts.{known_exactly}
use Rattle.bep_audit.proofs.known.is_known.Goals as goal

pub returns-then-is_held : goal.returns-then-is_held
returns-then-is_held c =
    let exactly = known_exactly c.cut_says.ensures c.args.cut.now c.shares.ensures.a_cut c.args.folder.now c.args.name.now in
    let held = subst (λ (shares : List Share). IsHeldIn shares c.args.name.now) c.shares.ensures.value (c.is_held.ensures.0 c.if-is_held.true) in
    (λ _. exactly.1 (inl held), λ _. c.if-is_held.true)

pub returns-else-is_held : goal.returns-else-is_held
returns-else-is_held c =
    let exactly = known_exactly c.cut_says.ensures c.args.cut.now c.shares.ensures.a_cut c.args.folder.now c.args.name.now in
    let held : IsHeldIn (shares_of c.args.folder.now c.args.cut.now.folders) c.args.name.now → IsHeldIn c.shares.result.now c.args.name.now
    = λ held. subst (λ (shares : List Share). IsHeldIn shares c.args.name.now) (sym c.shares.ensures.value) held in (
      λ way. exactly.1 (inr (subst (λ (links : List LinkState). IsOnItsWay c.args.folder.now links c.args.name.now) c.links.ensures.value (c.is_on_its_way.ensures.0 way))),
      λ known. ⊎_elim
          (λ there. absurd (true≢false (sym (c.is_held.ensures.1 (held there)) ∙ c.if-is_held.false)))
          (λ way. c.is_on_its_way.ensures.1 (subst (λ (links : List LinkState). IsOnItsWay c.args.folder.now links c.args.name.now) (sym c.links.ensures.value) way))
          (exactly.0 known),
    )
