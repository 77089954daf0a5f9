use Rattle.std.proofs.Common.{◌≡◌, ◌+◌, ◌-◌, length, Option, Err, rules, subst, arith}
use Rattle.bep_machine.specs.Said.{tables_of_cluster}
use Rattle.bep_peer.specs.network.Network.{cluster_of}
use Rattle.bep_converge.specs.Ended.{IsEnded}
use Rattle.bep_converge.specs.Prevails.{AllPrevail}
use Rattle.bep_rounds.specs.Finding.{IsFound}
use Rattle.bep_rounds.specs.Rounds.{IsAllBrought}
use Rattle.bep_rounds.specs.declared.wanted.Wanted.{Wanted}
use Rattle.bep_rounds.proofs.AllRounds.{at_error, brings_next, first_brings, last_found, next_round, none_is_left}
use Rattle.bep_rounds.proofs.QuietRuns.{both_runs}
use Rattle.bep_rounds.proofs.all.bring_all.Goals as goal

pub loop-round-init : goal.loop-round-init
loop-round-init g c = first_brings _ _ _ (omega arith)

pub loop-round-preserved : goal.loop-round-preserved
loop-round-preserved g c =
    let now = cluster_of c.loop-round.cluster in
    brings_next c.args.most (c.args.most - c.loop-round._round) (cluster_of c.args.cluster.now) now c.loop-round.invariant (c.args.most - (c.loop-round._round + 1)) (cluster_of c.bring.new.cluster) c.in-Some.wanted (omega arith)
    (subst (λ (found : Option Wanted). IsFound now found (AllPrevail (tables_of_cluster now) → IsEnded (tables_of_cluster now))) c.in-Some.is c.in_ok-found.ensures)
    c.bring.ensures.quiet c.in_ok-bring.ensures.brings

pub returns-in-None-clause-quiet : goal.returns-in-None-clause-quiet
returns-in-None-clause-quiet g c = c.loop-round.invariant.quiet

pub returns-in-None-clause-left : goal.returns-in-None-clause-left
returns-in-None-clause-left g c =
    let now = cluster_of c.loop-round.cluster in
    subst (λ (found : Option Wanted). IsFound now found (AllPrevail (tables_of_cluster now) → IsEnded (tables_of_cluster now))) c.in-None.is c.in_ok-found.ensures

pub returns-in-None-clause-ends : goal.returns-in-None-clause-ends
returns-in-None-clause-ends g c =
    let now = cluster_of c.loop-round.cluster in
    none_is_left c.prevailing_goes_on.ensures c.step_has_halves.ensures c.args.most (c.args.most - c.loop-round._round) (cluster_of c.args.cluster.now) now c.loop-round.invariant
    (subst (λ (found : Option Wanted). IsFound now found (AllPrevail (tables_of_cluster now) → IsEnded (tables_of_cluster now))) c.in-None.is c.in_ok-found.ensures)

pub returns-in_err-found-clause-quiet : goal.returns-in_err-found-clause-quiet
returns-in_err-found-clause-quiet g c = c.loop-round.invariant.quiet

pub returns-in_err-bring-clause-quiet : goal.returns-in_err-bring-clause-quiet
returns-in_err-bring-clause-quiet g c = both_runs _ _ _ c.loop-round.invariant.quiet c.bring.ensures.quiet

pub returns-in_err-bring-clause-ends : goal.returns-in_err-bring-clause-ends
returns-in_err-bring-clause-ends g c =
    let is : c.from_residual-in_err-bring.result ≡ Err c.in_err-bring.field-0.0 = search rules in
    λ behind few ready has.
    let now = cluster_of c.loop-round.cluster in
    let next = next_round c.args.most (c.args.most - c.loop-round._round) (cluster_of c.args.cluster.now) now c.loop-round.invariant c.in-Some.wanted
    (subst (λ (found : Option Wanted). IsFound now found (AllPrevail (tables_of_cluster now) → IsEnded (tables_of_cluster now))) c.in-Some.is c.in_ok-found.ensures)
    behind few ready has in
    at_error (IsAllBrought (cluster_of c.args.cluster.now) (cluster_of c.bring.new.cluster)) c.bring.new.cluster.members c.from_residual-in_err-bring.result c.in_err-bring.field-0.0 is
    (c.in_err-bring.ensures.brings (length next.more) next.top next.ready next.behind)

pub returns-in_err-left-clause-quiet : goal.returns-in_err-left-clause-quiet
returns-in_err-left-clause-quiet g c = c.loop-round.invariant.quiet

pub returns-clause-quiet : goal.returns-clause-quiet
returns-clause-quiet g c = c.loop-round.invariant.quiet

pub returns-clause-ends : goal.returns-clause-ends
returns-clause-ends g c =
    last_found c.prevailing_goes_on.ensures c.step_has_halves.ensures c.args.most (c.args.most - c.loop-round._round) (cluster_of c.args.cluster.now) (cluster_of c.loop-round.cluster) c.loop-round.invariant (omega arith)
    c.loop-round.cluster.members c.in_ok-left.left c.in_ok-left.ensures
