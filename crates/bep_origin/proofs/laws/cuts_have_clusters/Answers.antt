use Rattle.std.proofs.Common.{refl}
use Rattle.bep_origin.specs.FromCut.{cluster_from}
use Rattle.bep_origin.proofs.FromSound.{is_sound}
use Rattle.bep_origin.proofs.FromTables.{says_the_cut}
use Rattle.bep_origin.proofs.laws.cuts_have_clusters.Goals as goal

pub returns : goal.returns
returns c = λ cut is good. record { sound = is_sound c.batch_records_are_found.ensures.among cut is good; says = says_the_cut cut is; sessions = λ device. refl }
