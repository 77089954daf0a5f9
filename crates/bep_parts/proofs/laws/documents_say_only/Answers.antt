use Rattle.bep_parts.proofs.Documents.{documents_say_only}
use Rattle.bep_parts.proofs.laws.documents_say_only.Goals as goal

pub returns : goal.returns
returns c = documents_say_only
