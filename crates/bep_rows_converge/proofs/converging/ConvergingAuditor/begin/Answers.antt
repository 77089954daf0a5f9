use Rattle.std.proofs.Common.{◌∙◌, [], refl, ap, inl, map}
use Rattle.bep_facts.specs.Members.{not_in_none}
use Rattle.bep_rows_converge.specs.Pairs.{no_pairs}
use Rattle.bep_rows_converge.proofs.converging.ConvergingAuditor.begin.Goals as goal

pub returns : goal.returns
returns c = record {
  differ = tt;
  up_to = λ row member. absurd (not_in_none row member);
  among = inl refl;
  first = λ row member. absurd (not_in_none row member);
  progress = [];
  counted = tt;
  pairs = c.new.ensures ∙ c.in_ok-pairs.ensures ∙ ap (map no_pairs) c.folders.ensures.value;
}
