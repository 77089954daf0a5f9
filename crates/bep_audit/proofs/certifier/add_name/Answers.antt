use Rattle.std.proofs.Common.{map, option_map, refl, sym, ap, subst, ◌∙◌, inl, inr, true≢false}
use Rattle.bep_choice.specs.Choice.{candidate_of}
use Rattle.bep_tables.specs.Cut.{tables_of}
use Rattle.bep_tables.specs.Listed.{listed}
use Rattle.bep_audit.specs.Candidates.{FindsWinner}
use Rattle.bep_audit.specs.Certifier.{IsWon}
use Rattle.bep_audit.proofs.GroupFacts.{known_by_group}
use Rattle.bep_audit.proofs.certifier.add_name.Goals as goal

pub returns-then-not-has_known : goal.returns-then-not-has_known
returns-then-not-has_known c =
    let by_group = known_by_group c.entries_are_held.ensures.held c.args.cut.now c.is_a_cut.ensures (c.args.folder.now, c.args.name.now) (map listed c.args.group.now) c.requires c.entries_are_held.ensures.shares in
    inr (inr ((λ known. true≢false (sym (c.has_known.ensures.1 (by_group.1 known)) ∙ c.if-not-has_known.true)), refl, refl))

pub returns-in_ok-push-in-Some : goal.returns-in_ok-push-in-Some
returns-in_ok-push-in-Some c =
    let folder = c.args.folder.now in
    let t = tables_of c.args.cut.now in
    let by_group = known_by_group c.entries_are_held.ensures.held c.args.cut.now c.is_a_cut.ensures (folder, c.args.name.now) (map listed c.args.group.now) c.requires c.entries_are_held.ensures.shares in
    let found = subst (FindsWinner t folder c.args.name.now) (ap (option_map candidate_of) c.in-Some.is) (c.winner_in.ensures c.args.name.now c.requires) in
    let named = found.1 in
    let won = subst (IsWon t (folder, c.args.name.now)) (sym c.in_ok-of-in-Some.ensures) (λ i. (folder, named i), found.0) in
    inl (by_group.0 (c.has_known.ensures.0 c.if-not-has_known.false), (c.in_ok-of-in-Some.field-0, won, c.in_ok-push-in-Some.ensures.items), refl)

pub returns-in_ok-add_place-in-None : goal.returns-in_ok-add_place-in-None
returns-in_ok-add_place-in-None c =
    let folder = c.args.folder.now in
    let t = tables_of c.args.cut.now in
    let by_group = known_by_group c.entries_are_held.ensures.held c.args.cut.now c.is_a_cut.ensures (folder, c.args.name.now) (map listed c.args.group.now) c.requires c.entries_are_held.ensures.shares in
    let none = subst (FindsWinner t folder c.args.name.now) (ap (option_map candidate_of) c.in-None.is) (c.winner_in.ensures c.args.name.now c.requires) in
    inr (inl (
      record { known = by_group.0 (c.has_known.ensures.0 c.if-not-has_known.false); unwon = none },
      refl,
      c.in_ok-add_place-in-None.ensures,
    ))
