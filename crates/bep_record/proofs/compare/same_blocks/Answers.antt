use Rattle.std.proofs.Common.{rules}
use Rattle.std.proofs.lemmas.Slice.Eq.{slice_eq-Decides, bytes_eq-Decides}
use Rattle.bep_record.proofs.compare.same_blocks.Goals as goal

pub returns : goal.returns
returns c = slice_eq-Decides (λ a b. search (rules, bytes_eq-Decides)) _ _ _ c.eq.ensures
