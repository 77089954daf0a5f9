use Rattle.std.proofs.Common.{◌≡◌, true, is_some, rules, sym}
use Rattle.std.specs.FinMap as map
use Rattle.bep_peer.proofs.peer.Peer.is_named.Goals as goal

pub returns-in-Some-clause-shared : goal.returns-in-Some-clause-shared
returns-in-Some-clause-shared g c =
    rw (← c.self.view_is)
    (λ yes.
    let named : is_some (map.get c.in-Some.session.now.cursors c.args.folder.now) ≡ true = search rules in
    c.self.invariant.named c.args.other c.in-Some.session.now c.args.folder.now (sym c.in-Some.ensures) named)
