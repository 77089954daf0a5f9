use Rattle.bep_choice.proofs.laws.choice_is_on_top.Goals as goal

pub returns-clause-on_top : goal.returns-clause-on_top
returns-clause-on_top c = λ chooser candidates one other choice valid below.
    choice.left.undominated other valid.0 (valid.1, below)
