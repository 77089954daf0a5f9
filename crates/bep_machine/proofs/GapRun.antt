-- No view has a gap in any cluster that a run reaches from one without a gap whose links are down.
use Rattle.std.proofs.Common.{◌≡◌, ◌≢◌, ◌≤◌, Bool, true, false, nat_lt, nat_le, List, [], ◌∷◌, Option, Some, None, Contains, if◌then◌else◌, refl, sym, ap, subst, ◌∙◌, arith}
use Rattle.std.proofs.lemmas.Bool.Decides.{nat_tests}
use Rattle.std.proofs.lemmas.Option.{none-some}
use Rattle.std.specs.Ordering.{nat_cmp}
use Rattle.std.specs.FinMap.{get}
use Rattle.bep_facts.specs.Maps.{nothing_in_empty}
use Rattle.bep_record.specs.declared.entry.Entry.{Entry}
use Rattle.bep_index.specs.Listing.{Listing}
use Rattle.bep_index.specs.Index.{IsIndex}
use Rattle.bep_index.specs.Laws.{up_to, HoldsUpTo, FoundIsOfBatchOrBefore, BatchIsFound, OthersAreKept}
use Rattle.bep_index.specs.Laws as index_laws
use Rattle.bep_model.specs.Tables.{Device, Folder}
use Rattle.bep_machine.specs.Replica.{Replica}
use Rattle.bep_machine.specs.Peer.{Session}
use Rattle.bep_machine.specs.Cluster.{Cluster, link_between}
use Rattle.bep_machine.specs.Steps.{Event, IsRun}
use Rattle.bep_machine.specs.Sound.{IsSound}
use Rattle.bep_machine.specs.Gapless.{HasNoGap, IsGapless, IsOfNoLaterIndex, IsApart}
use Rattle.bep_machine.specs.Laws.{AreSound, StepsKeepSound, RunsAreGapless, FreshIsApart, SamePointSameIndex}
use Rattle.bep_machine.proofs.GapPair.{IsOfEpoch}
use Rattle.bep_machine.proofs.GapCluster.{IsExchanging}
use Rattle.bep_machine.proofs.GapSteps.{step_exchanging}

-- ---- where all links are down

-- a device that has the folder is among those that share it
shares_with_other : (cluster : Cluster) → IsSound cluster → (device other : Device) (folder : Folder) (replica others : Replica) → Contains cluster.config.devices device → Contains cluster.config.devices other → device ≢ other →
    get (cluster.peer device).replicas folder ≡ Some replica → get (cluster.peer other).replicas folder ≡ Some others → Contains replica.others other
shares_with_other cluster sound device other folder replica others member member_too apart there there_too =
    (((sound.peers device member).fit folder replica there).others other).1
    ((λ same. apart (sym same)), (others.kind, ((sound.peers other member_too).fit folder others there_too).kind))

apart_exchanging : (cluster : Cluster) → IsSound cluster → IsApart cluster → IsExchanging cluster
apart_exchanging cluster sound parted = record {
  between = λ device other member member_too apart folder replica others there there_too. record {
    earlier =
        let fit = (sound.peers device member).fit folder replica there in
        parted.earlier device other folder replica others (replica.kind, fit.kind) there there_too
        (shares_with_other cluster sound device other folder replica others member member_too apart there there_too);
    keeps_up = λ same.
        let fit = (sound.peers device member).fit folder replica there in
        parted.gapless device other folder replica others (replica.kind, fit.kind) there there_too
        (shares_with_other cluster sound device other folder replica others member member_too apart there there_too) same;
    in_step = λ up. let never : true ≡ false = sym up ∙ down device other (nat_lt device other) in absurd (cc);
  };
  epochs = λ device other member apart. of_epoch device other (get (cluster.peer device).sessions other) refl;
}
  where
    down : (device other : Device) (b : Bool) → (if b then cluster.link device other else cluster.link other device).up ≡ false
    down device other true = parted.links device other
    down device other false = parted.links other device

    of_epoch : (device other : Device) (found : Option Session) → get (cluster.peer device).sessions other ≡ found → IsOfEpoch (link_between cluster device other).epoch found
    of_epoch device other None is = tt
    of_epoch device other (Some session) is = parted.sessions device other session is

pub fresh_is_apart : FreshIsApart
fresh_is_apart cluster sound fresh = record {
  gapless = λ device other folder replica others shares there there_too among same.
      let known = ap (λ (view : Listing). view.id) (fresh.views device other folder replica there) in
      let beside = (((sound.peers device (sound.config.sharing folder device shares)).fit folder replica there).others other).0 among in
      let id = ((sound.peers other (sound.config.sharing folder other beside.1)).replicas folder others there_too).id in
      absurd (omega (arith, known, id, same));
  earlier = λ device other folder replica others shares there there_too among.
      let known = ap (λ (view : Listing). view.id) (fresh.views device other folder replica there) in
      omega (arith, known);
  sessions = λ device other session is. nothing_in_empty nat_cmp other session (subst (λ s. get s other ≡ Some session) (fresh.sessions device) is);
  links = fresh.links;
}

-- ---- every view keeps up

exchanging_gapless : (cluster : Cluster) → IsSound cluster → IsExchanging cluster → IsGapless cluster
exchanging_gapless cluster sound exchanging device other folder replica others shares there there_too among same =
    let member = sound.config.sharing folder device shares in
    let beside = (((sound.peers device member).fit folder replica there).others other).0 among in
    ((exchanging.between device other member (sound.config.sharing folder other beside.1) (λ equal. beside.0 (sym equal)) folder replica others there there_too).keeps_up same)

exchanging_earlier : (cluster : Cluster) → IsSound cluster → IsExchanging cluster → IsOfNoLaterIndex cluster
exchanging_earlier cluster sound exchanging device other folder replica others shares there there_too among =
    let member = sound.config.sharing folder device shares in
    let beside = (((sound.peers device member).fit folder replica there).others other).0 among in
    ((exchanging.between device other member (sound.config.sharing folder other beside.1) (λ equal. beside.0 (sym equal)) folder replica others there there_too).earlier)

-- ---- runs

module _ (keeps_sound : StepsKeepSound) (found : FoundIsOfBatchOrBefore) (taken : BatchIsFound) (others : OthersAreKept) where
  run_gapless : (old later : Cluster) (events : List Event) → IsSound old → IsExchanging old → AreSound events → IsRun old events later → IsGapless later × IsOfNoLaterIndex later
  run_gapless old later [] sound exchanging user same =
      subst (λ cluster. IsGapless cluster × IsOfNoLaterIndex cluster) (sym same) (exchanging_gapless old sound exchanging, exchanging_earlier old sound exchanging)
  run_gapless old later (event ∷ more) sound exchanging user run =
      run_gapless run.0 later more
      (keeps_sound event.step event.failed old run.0 event.answer user.0 sound run.1)
      (step_exchanging found taken others event.step event.failed old run.0 event.answer sound exchanging run.1)
      user.1 run.2

  pub runs_are_gapless_lem : RunsAreGapless
  runs_are_gapless_lem cluster later events sound parted user run = run_gapless cluster later events sound (apart_exchanging cluster sound parted) user run

-- ---- a view at the index's point

holds_up_to : (index view : Listing) → IsIndex index → HasNoGap index view → view.sequence ≡ index.sequence → HoldsUpTo index view
holds_up_to index view is_index no_gap same name = by_record (get index.records name) (get view.records name) refl refl
  where
    small : (entry : Entry) (b : Bool) → nat_le entry.sequence view.sequence ≡ b → entry.sequence ≤ view.sequence → Some entry ≡ (if b then Some entry else None)
    small entry true e less = refl
    small entry false e less = absurd (grind (arith, nat_tests))

    by_record : (there seen : Option Entry) → get index.records name ≡ there → get view.records name ≡ seen → seen ≡ up_to view.sequence there
    by_record None None is has = refl
    by_record None (Some entry) is has =
        let present = no_gap.named name entry has in
        absurd (none-some present.0 (sym is ∙ present.1))
    by_record (Some entry) seen is has =
        let below = (is_index.numbered name entry is).2 in
        let less : entry.sequence ≤ view.sequence = omega (arith, below, same) in
        sym has ∙ no_gap.held name entry is less ∙ small entry (nat_le entry.sequence view.sequence) refl less

pub same_point_same_index_lem : index_laws.SamePointSameIndex → SamePointSameIndex
same_point_same_index_lem law index view is_index is_view no_gap id sequence =
    law index view is_index (holds_up_to index view is_index no_gap sequence) id sequence
