use Rattle.std.proofs.Common.{◌≡◌, ℕ, ◌-◌, List, IfSome, length, take, drop, sym, subst, arith}
use Rattle.std.proofs.lemmas.List.{take_all, length-drop}
use Rattle.std.specs.Option.{option_copied}
use Rattle.bep_choice.specs.Choice.{Candidate, IsChoice, candidates_of}
use Rattle.bep_folder.specs.inner.Chosen.{AreNamed, known_by, viewed_among}
use Rattle.bep_folder.proofs.KnownFacts.{in_order, gathered, lent_rise, same_candidates, same_candidates_back, chosen_of_same, choice_named, in_order_named}
use Rattle.bep_folder.proofs.pull.chosen.best_within.Goals as goal

pub best-requires : goal.best-requires
best-requires c =
    let own = option_copied c.args.own in
    let others = c.args.others.now in
    let place = c.place_among-place.result in
    let same = gathered c.args.views.now c.args.name.now c.args.device own others place _ _ _ c.gather-lower.ensures.candidates c.put-middle.ensures.candidates c.gather-count.ensures.candidates in
    lent_rise c.args.views.now c.args.name.now c.args.device own _ (take place others) (drop place others) same c.place_among-place.ensures.rise

-- the candidates in the order of their devices
abbrev in_turn : goal.After-best → List Candidate
in_turn c = in_order c.args.views.now c.args.name.now c.args.device (option_copied c.args.own) (take c.place_among-place.result c.args.others.now) (drop c.place_among-place.result c.args.others.now)

-- these were gathered
all_there : (c : goal.After-best) → candidates_of (take c.gather-count.result c.gather-count.new.found) ≡ in_turn c
all_there c =
    gathered c.args.views.now c.args.name.now c.args.device (option_copied c.args.own) c.args.others.now c.place_among-place.result _ _ _
    c.gather-lower.ensures.candidates c.put-middle.ensures.candidates c.gather-count.ensures.candidates

chosen : (c : goal.After-best) → IfSome c.best.result (λ one. (from : ℕ) × IsChoice c.args.device (in_turn c) (from, one.now))
chosen c = subst (λ (all : List Candidate). IfSome c.best.result (λ one. (from : ℕ) × IsChoice c.args.device all (from, one.now))) (all_there c) c.best.ensures.chosen

pub returns-clause-chosen : goal.returns-clause-chosen
returns-clause-chosen c =
    chosen_of_same c.choice_is_of_the_set.ensures c.args.device (in_turn c) (known_by c.args.device (option_copied c.args.own) c.args.views.now c.args.name.now c.args.others.now)
    (same_candidates c.args.views.now c.args.name.now c.args.device (option_copied c.args.own) c.args.others.now c.place_among-place.result)
    c.best.result (chosen c)

pub returns-clause-only : goal.returns-clause-only
returns-clause-only c = λ one choice.
    c.best.ensures.only one
    (subst (λ (all : List Candidate). IsChoice c.args.device all one) (sym (all_there c))
    (c.choice_is_of_the_set.ensures c.args.device (known_by c.args.device (option_copied c.args.own) c.args.views.now c.args.name.now c.args.others.now) (in_turn c) one
    (same_candidates_back c.args.views.now c.args.name.now c.args.device (option_copied c.args.own) c.args.others.now c.place_among-place.result) choice))

pub returns-clause-named : goal.returns-clause-named
returns-clause-named c =
    let others = c.args.others.now in
    let place = c.place_among-place.result in
    let upper : AreNamed c.args.name.now (viewed_among c.args.views.now c.args.name.now (drop place others)) =
    subst (λ (rest : List ℕ). AreNamed c.args.name.now (viewed_among c.args.views.now c.args.name.now rest)) (take_all (length others - place) (drop place others) (omega (arith, length-drop place others))) c.gather-count.ensures.named in
    choice_named c.args.name.now c.args.device (in_turn c)
    (in_order_named c.args.views.now c.args.name.now c.args.device (option_copied c.args.own) (take place others) (drop place others) c.gather-lower.ensures.named c.requires.own upper)
    c.best.result (chosen c)
