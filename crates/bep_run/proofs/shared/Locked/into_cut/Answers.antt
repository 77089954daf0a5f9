use Rattle.std.proofs.Common.{Option, length, subst}
use Rattle.std.specs.Prelude.{IfSome}
use Rattle.std.specs.List.{AllByRecursion}
use Rattle.bep_history.specs.View.{view_of}
use Rattle.bep_log.specs.LoggedLink.{LoggedBetween}
use Rattle.bep_run_check.specs.Log.{IsLogged}
use Rattle.bep_run.specs.Based.{base_seen}
use Rattle.bep_run.specs.Origin.{devices_in, links_in}
use Rattle.bep_run_cut.specs.RunCut.{HoldsCopies, RunState, device_log}
use Rattle.bep_run.proofs.Begins.{begins_so, copies_are_all}
use Rattle.bep_run.proofs.Endings.{knows_still, logs_fit}
use Rattle.bep_run.proofs.shared.Locked.into_cut.Goals as goal

pub returns-in-Some-clause-fit : goal.returns-in-Some-clause-fit
returns-in-Some-clause-fit g c =
    let start = g.O.Origin.start in
    let table = g.O.Tabled.table in
    let run = c.in-Some.run' in
    let peers = c.in_ok-peers.peers.items in
    let links = c.in_ok-links.links.items in
    let devices = c.into_parts-devices.result.0.items in
    let joints = c.into_parts-devices.result.1.items in
    let listed = c.into_parts-devices.result.2.table.shared.key.items in
    let before = view_of c.end_devices.new.whole in
    let whole = view_of c.end_links.new.whole in
    let holds = subst (λ (made : Option RunState). IfSome made (HoldsCopies peers links)) c.in-Some.is c.in_ok-run.ensures.holds in
    let begins =
    begins_so start run.bases peers links holds.bases
    (copies_are_all base_seen (devices_in start) peers (length devices) c.in_ok-peers.ensures.first c.into_parts-devices.ensures.devices c.in_ok-peers.ensures.all)
    (copies_are_all (λ (copy : LoggedBetween). copy.base) (links_in start) links (length joints) c.in_ok-links.ensures.first c.into_parts-devices.ensures.links c.in_ok-links.ensures.all) in
    logs_fit start table run peers links listed whole c.parts_fit.ensures c.learn.ensures.told c.into_parts-devices.ensures.about c.logs.ensures.a_run_cut
    (subst (λ logs. AllByRecursion IsLogged logs) c.logs.ensures.value c.all_are_logged.ensures) begins holds.logs
    (knows_still device_log table peers before.rows whole.rows c.in_ok-links.ensures.still c.in_ok-peers.ensures.knows)
    c.in_ok-links.ensures.knows
