use Rattle.bep_choice.proofs.ChoiceOrder.{same_device}
use Rattle.bep_choice.proofs.laws.choice_is_unique.Goals as goal

pub returns : goal.returns
returns c = λ chooser candidates one other one_each h k.
    one_each one other h.left.valid.0 k.left.valid.0
    (same_device chooser one other (h.first other k.left) (k.first one h.left))
