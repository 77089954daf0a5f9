use Rattle.std.proofs.Common.{refl}
use Rattle.bep_json.proofs.AddedFacts.{one_token}
use Rattle.bep_json.proofs.added.write_null.Goals as goal

pub returns : goal.returns
returns c = record { follow = one_token c.in_ok-null.ensures; readable = record { reads = refl; whole = refl } }
