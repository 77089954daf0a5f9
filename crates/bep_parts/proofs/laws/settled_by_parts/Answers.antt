use Rattle.bep_parts.proofs.AskedOfParts.{parts_of_settled}
use Rattle.bep_parts.proofs.AskedOfParts.{settled_by_many_parts, settled_by_parts_lem}
use Rattle.bep_parts.proofs.laws.settled_by_parts.Goals as goal

pub returns-clause-two : goal.returns-clause-two
returns-clause-two c = settled_by_parts_lem

pub returns-clause-many : goal.returns-clause-many
returns-clause-many c = settled_by_many_parts

pub returns-clause-back : goal.returns-clause-back
returns-clause-back c = parts_of_settled
