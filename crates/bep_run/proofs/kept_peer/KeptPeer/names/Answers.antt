use Rattle.std.proofs.Common.{ap}
use Rattle.bep_log.specs.LoggedPeer.{LoggedMember}
use Rattle.bep_peer.specs.Member.{tables_of}
use Rattle.bep_run.proofs.Grown.{device_read}
use Rattle.bep_run.proofs.kept_peer.KeptPeer.names.Goals as goal

pub invariant_of-self : goal.invariant_of-self
invariant_of-self g c =
    let log = c.names.ensures.log in
    device_read g.O.Origin.start g.O.Tabled.table c.self.inside.place c.self.inside.logged c.names.new.self c.self.inside.seat
    (ap (λ (m : LoggedMember). m.log) log) (ap (λ (m : LoggedMember). m.last) log) (ap (λ (m : LoggedMember). m.round) log) c.names.ensures.rest.number (ap (λ (m : LoggedMember). tables_of m.base) log) c.self.invariant
