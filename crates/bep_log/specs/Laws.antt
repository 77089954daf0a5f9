-- What logs say of the states to which they lead; the functions of src/laws.rt have these as contracts.
use Rattle.std.specs.Prelude.{◌≡◌, List}
use Rattle.bep_machine.specs.Determined.{SharesWithOthers}
use Rattle.bep_links.specs.Link.{LinkBetween}
use Rattle.bep_peer.specs.Member.{Member, tables_of}
use Rattle.bep_fit.specs.declared.stamped.Stamped.{Stamped}
use Rattle.bep_fit.specs.Logs.{events_of}
use Rattle.bep_log.specs.LoggedLink.{IsLinkReplayed}
use Rattle.bep_log.specs.LoggedPeer.{IsReplayed}

-- Two devices that replay the same events, under whatever tickets, from bases with the same tables have the same tables. The
-- device isn't among those others with which it shares a folder.
abbrev pub DevicesReplayAlike : Type 0
DevicesReplayAlike = (one other base again : Member) (log more : List Stamped) →
    IsReplayed one base log → IsReplayed other again more → other.number ≡ one.number → tables_of again ≡ tables_of base →
    events_of more ≡ events_of log → SharesWithOthers one.number (tables_of base) → tables_of other ≡ tables_of one

-- so do two links
abbrev pub LinksReplayAlike : Type 0
LinksReplayAlike = (one other base : LinkBetween) (log more : List Stamped) →
    IsLinkReplayed one base log → IsLinkReplayed other base more → events_of more ≡ events_of log → other ≡ one
