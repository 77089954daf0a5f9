-- Where the logs of a run cut fit, they are one run.
use Rattle.std.proofs.Common.{◌≡◌, ◌↔◌, ◌∙◌, ◌≤◌, ℕ, List, map, length, Option, Some, None, IsSome, IfSome, Result, Ok, Err, IfOk, sym, ap, subst, arith}
use Rattle.std.proofs.lemmas.List.{length-append, length-map}
use Rattle.std.specs.List.{AllByRecursion}
use Rattle.bep_machine.specs.HalfLaws.{ReplaysKeepSharing}
use Rattle.bep_model.specs.Stays.{Stays}
use Rattle.bep_model.specs.Tables.{Tables}
use Rattle.bep_links.specs.Link.{LinkBetween}
use Rattle.bep_peer.specs.Laws.{NoMoreTables, TablesAreFound}
use Rattle.bep_peer.specs.Member.{Member}
use Rattle.bep_peer.specs.network.Network.{cluster_of}
use Rattle.bep_log.specs.LoggedLink.{LoggedBetween}
use Rattle.bep_log.specs.LoggedPeer.{LoggedMember}
use Rattle.bep_tables.specs.Cut.{tables_of}
use Rattle.bep_cut.specs.Cut.{seen}
use Rattle.bep_fit.specs.declared.verdict.RunVerdict.{RunVerdict}
use Rattle.bep_fit.specs.declared.verdict.RunVerdict.TheVariants.{Fits}
use Rattle.bep_fit.specs.Fit.{IsRunVerdict}
use Rattle.bep_fit.specs.FitLaws.{FittingLogsAreOneRun, SettledLogsStayPut}
use Rattle.bep_fit.specs.Logs.{ObjectLog}
use Rattle.bep_run_check.specs.declared.limits.TheConstants.{MAX_OBJECTS}
use Rattle.bep_run_cut.specs.OneRun.{IsRunOf, StaysPut}
use Rattle.bep_run_cut.specs.RunCut.{AreTheSame, HoldsCopies, IsRunCut, IsLinkReplayedCopy, IsReplayedCopy, PartsLead, RunState, device_log, link_log, links_base, links_now, logs_of, members_base, members_now}
use Rattle.bep_run_cut.specs.Whole.{AreWhole}
use Rattle.bep_run_cut.proofs.BasesWhole.{bases_whole}
use Rattle.bep_run_cut.proofs.Replaying.{copies_replay}

pub is_run : FittingLogsAreOneRun → (run : RunState) → IsRunCut run → (verdict : RunVerdict) → IsRunVerdict run.logs verdict → (count : ℕ) → verdict ≡ Fits count → IsRunOf run count
is_run law run is verdict judged count fits =
    law run.logs (cluster_of run.bases) (cluster_of run.present) count is.sound is.replayed is.nodes (subst (IsRunVerdict run.logs) fits judged)

pub stays_put : SettledLogsStayPut → (run : RunState) → IsRunCut run → (verdict : RunVerdict) → IsRunVerdict run.logs verdict → (count : ℕ) → verdict ≡ Fits count → StaysPut run
stays_put law run is verdict judged count fits base cut base_is cut_is rows reset settled quiet all =
    let tables = tables_of base in
    subst (λ (after : Tables). Stays tables rows reset after) (sym cut_is.says)
    (law run.logs (cluster_of run.bases) (cluster_of run.present) count tables rows reset is.sound is.replayed (subst (IsRunVerdict run.logs) fits judged) quiet all (sym base_is.says) settled)

-- whole copies have few logs
pub few_logs : (peers : List LoggedMember) (links : List LoggedBetween) → AreWhole (members_now peers) (links_now links) → length (logs_of peers links) ≤ MAX_OBJECTS
few_logs peers links whole =
    let devices = whole.parts.few_devices in
    let few = whole.few in
    let all = length-append (map device_log peers) (map link_log links) in
    let of_peers = length-map peers device_log in
    let of_links = length-map links link_log in
    let members = length-map peers (λ (copy : LoggedMember). copy.now) in
    let between = length-map links (λ (copy : LoggedBetween). copy.now) in
    omega (arith, devices, few, all, of_peers, of_links, members, between)

-- the parts of copies lead from the ones to the others
pub parts_lead : ReplaysKeepSharing → TablesAreFound → NoMoreTables → (peers : List LoggedMember) (links : List LoggedBetween) → AllByRecursion IsReplayedCopy peers → AllByRecursion IsLinkReplayedCopy links →
    PartsLead (members_now peers) (links_now links) (members_base peers) (links_base links) (logs_of peers links)
parts_lead keeps law only peers links each links_each whole =
    let base_whole = bases_whole keeps law only peers links each links_each whole in
    (base_whole, copies_replay keeps peers links each links_each whole.parts base_whole.parts, few_logs peers links whole)

-- the parts, all in one
abbrev Lists : Type 0
Lists = List Member × (List LinkBetween × (List Member × (List LinkBetween × List ObjectLog)))

abbrev lists : List Member → List LinkBetween → List Member → List LinkBetween → List ObjectLog → Lists
lists members links bases base_links logs = (members, (links, (bases, (base_links, logs))))

-- what these devices, links, bases and logs are, if they are the copies' parts
module _ (peers : List LoggedMember) (links : List LoggedBetween) (members : List Member) (between : List LinkBetween) (bases : List Member) (base_between : List LinkBetween) (logs : List ObjectLog)
    (is : members ≡ members_now peers) (links_are : between ≡ links_now links) (bases_are : bases ≡ members_base peers) (base_links_are : base_between ≡ links_base links) (logs_are : logs ≡ logs_of peers links) where
  parts_are : lists (members_now peers) (links_now links) (members_base peers) (links_base links) (logs_of peers links) ≡ lists members between bases base_between logs
  parts_are = λ i. lists (sym is i) (sym links_are i) (sym bases_are i) (sym base_links_are i) (sym logs_are i)

  pub these_lead : ReplaysKeepSharing → TablesAreFound → NoMoreTables → AllByRecursion IsReplayedCopy peers → AllByRecursion IsLinkReplayedCopy links → PartsLead members between bases base_between logs
  these_lead keeps law only each links_each =
      subst (λ (all : Lists). PartsLead all.0 all.1.0 all.1.1.0 all.1.1.1.0 all.1.1.1.1) parts_are (parts_lead keeps law only peers links each links_each)

  holds : (run : RunState) → AreTheSame run.bases bases base_between → run.logs ≡ logs → AreTheSame run.present members between → HoldsCopies peers links run
  holds run base same present = record {
    bases = record { devices_same = base.devices_same ∙ ap (map seen) bases_are; links_same = base.links_same ∙ base_links_are };
    logs = same ∙ logs_are;
    present = record { devices_same = present.devices_same ∙ ap (map seen) is; links_same = present.links_same ∙ links_are };
  }

  holds_if : (made : Option RunState) → IfSome made (λ run. AreTheSame run.bases bases base_between) → IfSome made (λ run. run.logs ≡ logs) → IfSome made (λ run. AreTheSame run.present members between) → IfSome made (HoldsCopies peers links)
  holds_if None base same present = tt
  holds_if (Some run) base same present = holds run base same present

  pub made_holds : {E : Type 0} (r : Result (Option RunState) E) →
      IfOk r (λ made. IfSome made (λ run. AreTheSame run.bases bases base_between)) → IfOk r (λ made. IfSome made (λ run. run.logs ≡ logs)) → IfOk r (λ made. IfSome made (λ run. AreTheSame run.present members between)) →
      IfOk r (λ made. IfSome made (HoldsCopies peers links))
  made_holds (Ok made) base same present = holds_if made base same present
  made_holds (Err e) base same present = tt

  pub made_if : {E : Type 0} (r : Result (Option RunState) E) → IfOk r (λ made. IsSome made ↔ AreWhole members between) → IfOk r (λ made. IsSome made ↔ AreWhole (members_now peers) (links_now links))
  made_if (Ok made) some = subst (λ (all : Lists). IsSome made ↔ AreWhole all.0 all.1.0) (sym parts_are) some
  made_if (Err e) some = tt
