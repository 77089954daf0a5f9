use Rattle.std.proofs.Common.{inr, ⊎_elim, arith}
use Rattle.std.proofs.lemmas.Bool.Decides.{nat_tests}
use Rattle.bep_model.proofs.examples.old_version_is_known.Goals as goal

pub returns-clause-beside_a_newer_record : goal.returns-clause-beside_a_newer_record
returns-clause-beside_a_newer_record c = inr (λ id. grind (arith, nat_tests), λ all. let back = all 1 in omega (arith, back))

pub returns-clause-beside_a_concurrent_record : goal.returns-clause-beside_a_concurrent_record
returns-clause-beside_a_concurrent_record c = ⊎_elim (λ same. cc) (λ below. let here = below.0 1 in omega (arith, here))
