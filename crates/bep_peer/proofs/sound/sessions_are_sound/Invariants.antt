use Rattle.std.specs.FinMap.{values}
use Rattle.std.specs.List.{AllByRecursion}
use Rattle.bep_peer.specs.Session.{IsSession}
use Rattle.bep_peer.proofs.sound.sessions_are_sound.Given as goal

-- where those that are left are sessions, all are
abbrev pub invariant-loop-session : goal.invariant-loop-session
invariant-loop-session l = AllByRecursion IsSession l.session-iterator → AllByRecursion IsSession (values l.sessions)
