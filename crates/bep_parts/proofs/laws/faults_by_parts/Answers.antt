use Rattle.bep_parts.proofs.AskedOfParts.{faults_by_parts_lem, firm_faults_by_parts_lem}
use Rattle.bep_parts.proofs.laws.faults_by_parts.Goals as goal

pub returns-clause-settled : goal.returns-clause-settled
returns-clause-settled c = faults_by_parts_lem

pub returns-clause-firm : goal.returns-clause-firm
returns-clause-firm c = firm_faults_by_parts_lem
