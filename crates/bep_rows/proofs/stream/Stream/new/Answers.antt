use Rattle.bep_rows.proofs.Reading.{none_read}
use Rattle.bep_rows.proofs.stream.Stream.new.Goals as goal

pub returns-clause-read : goal.returns-clause-read
returns-clause-read c = none_read
