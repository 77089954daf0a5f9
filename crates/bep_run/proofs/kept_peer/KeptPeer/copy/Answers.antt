use Rattle.std.proofs.Common.{ap}
use Rattle.bep_log.specs.LoggedPeer.{LoggedMember}
use Rattle.bep_run.proofs.Grown.{device_read}
use Rattle.bep_run.proofs.kept_peer.KeptPeer.copy.Goals as goal

pub invariant_of-self : goal.invariant_of-self
invariant_of-self g c =
    let log = c.copy_logged.ensures.log in
    device_read g.O.Origin.start g.O.Tabled.table c.self.inside.place c.self.inside.logged c.copy_logged.new.logged c.self.inside.seat
    (ap (λ (m : LoggedMember). m.log) log) (ap (λ (m : LoggedMember). m.last) log) (ap (λ (m : LoggedMember). m.round) log) c.copy_logged.ensures.number c.copy_logged.ensures.base c.self.invariant
