use Rattle.std.proofs.Common.{◌∙◌}
use Rattle.bep_choice.proofs.ChoiceOrder.{choice_cmp-others}
use Rattle.bep_choice.proofs.laws.choice_is_shared.Goals as goal

pub returns : goal.returns
returns c = λ chooser other candidates one none none_other choice. record {
  left = choice.left;
  first = λ two left behind.
      choice.first two left
      (choice_cmp-others chooser other one two (none one choice.left) (none two left) (none_other one choice.left) (none_other two left) ∙ behind);
}
