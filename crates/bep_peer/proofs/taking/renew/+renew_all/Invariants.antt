use Rattle.std.proofs.Common.{length}
use Rattle.bep_peer.proofs.taking.renew.+renew_all.Given as goal

abbrev pub decreases-renew_all : goal.decreases-renew_all
decreases-renew_all g l = length l.named.now
