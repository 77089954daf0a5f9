use Rattle.std.proofs.Common.{length}
use Rattle.bep_index.proofs.all.+put_all.Given as goal

abbrev pub decreases-put_all : goal.decreases-put_all
decreases-put_all l = length l.records.now
