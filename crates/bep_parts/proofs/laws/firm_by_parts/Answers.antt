use Rattle.bep_parts.proofs.AskedOfParts.{parts_of_firm}
use Rattle.bep_parts.proofs.AskedOfParts.{firm_by_many_parts, firm_by_parts_lem}
use Rattle.bep_parts.proofs.laws.firm_by_parts.Goals as goal

pub returns-clause-two : goal.returns-clause-two
returns-clause-two c = firm_by_parts_lem

pub returns-clause-many : goal.returns-clause-many
returns-clause-many c = firm_by_many_parts

pub returns-clause-back : goal.returns-clause-back
returns-clause-back c = parts_of_firm
