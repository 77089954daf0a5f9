use Rattle.bep_choice.proofs.Existence.{choice_exists_lem}
use Rattle.bep_choice.proofs.laws.choice_exists.Goals as goal

pub returns : goal.returns
returns c = λ chooser candidates.
    (λ choice. (choice.0, choice.1.left.valid), λ one. choice_exists_lem chooser candidates one.0 one.1)
