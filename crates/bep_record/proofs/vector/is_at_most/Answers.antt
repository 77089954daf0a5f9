use Rattle.std.proofs.Common.{leb, rules, tests, sym, ◌∙◌}
use Rattle.std.proofs.lemmas.Iterator.{YieldsList-from_slice}
use Rattle.std.proofs.lemmas.Iterator.Search.{all_from_yields_List}
use Rattle.bep_record.specs.Vector.{counter_of}
use Rattle.bep_record.proofs.VectorFacts.{IsAtMost-from_each, each-from_IsAtMost}
use Rattle.bep_record.proofs.vector.is_at_most.Goals as goal

pub returns : goal.returns
returns c =
    let u = c.args.first.now in
    let v = c.args.second.now in
    let e = all_from_yields_List (λ counter. leb counter.1 (counter_of v counter.0)) _ _ c.all.result c.all.ensures.ran (YieldsList-from_slice u cc) (λ x b q k. search (rules, tests)) in
    (λ h. IsAtMost-from_each u v (sym e ∙ h), λ h. e ∙ each-from_IsAtMost u v 0 c.requires h)
