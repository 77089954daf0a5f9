use Rattle.std.proofs.Common.{sym, refl}
use Rattle.bep_peer.proofs.taking.request.read_at.Goals as goal

pub returns-clause-reads : goal.returns-clause-reads
returns-clause-reads g c = record {
  was = c.in-Some.replica.now;
  now = c.look_at.new.replica;
  before = sym c.in-Some.ensures.value;
  after = refl;
  same = c.look_at.ensures.same;
  stays = c.look_at.ensures.stays;
  counted = c.look_at.ensures.counted;
  only = c.look_at.ensures.only;
  node = c.look_at.ensures.node;
}
