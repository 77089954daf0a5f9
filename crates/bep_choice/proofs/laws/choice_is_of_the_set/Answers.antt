use Rattle.bep_choice.specs.Choice.{Candidate, IsLeft, SameSet}
use Rattle.std.proofs.Common.{List}
use Rattle.bep_choice.proofs.laws.choice_is_of_the_set.Goals as goal

IsLeft-same : (candidates others : List Candidate) → SameSet candidates others → (one : Candidate) → IsLeft candidates one → IsLeft others one
IsLeft-same candidates others same one left = record {
  valid = ((same one).0 left.valid.0, left.valid.1);
  undominated = λ other in'. left.undominated other ((same other).1 in');
}

pub returns : goal.returns
returns c = λ chooser candidates others one same choice. record {
  left = IsLeft-same candidates others same one choice.left;
  first = λ other left. choice.first other (IsLeft-same others candidates (λ one. ((same one).1, (same one).0)) other left);
}
