use Rattle.std.proofs.Common.{sym, subst}
use Rattle.bep_machine.specs.declared.step.Step.{Step}
use Rattle.bep_peer.specs.network.Network.{cluster_of}
use Rattle.bep_core.specs.Applying.{failed_by}
use Rattle.bep_core.specs.Unhidden.{HidesNone}
use Rattle.bep_core.proofs.cluster.Cluster.make.Goals as goal

pub returns-in-Begin-clause-unhidden : goal.returns-in-Begin-clause-unhidden
returns-in-Begin-clause-unhidden g c =
    subst (λ (step : Step). HidesNone step (failed_by step c.over.new.self.members) (cluster_of c.args.self.now) c.over.result) (sym c.in-Begin.is) c.over.ensures.unhidden

pub returns-in-Deliver-clause-unhidden : goal.returns-in-Deliver-clause-unhidden
returns-in-Deliver-clause-unhidden g c =
    subst (λ (step : Step). HidesNone step (failed_by step c.over-in-Deliver.new.self.members) (cluster_of c.args.self.now) c.over-in-Deliver.result) (sym c.in-Deliver.is) c.over-in-Deliver.ensures.unhidden

pub returns-in-Announce-clause-unhidden : goal.returns-in-Announce-clause-unhidden
returns-in-Announce-clause-unhidden g c =
    subst (λ (step : Step). HidesNone step (failed_by step c.over-in-Announce.new.self.members) (cluster_of c.args.self.now) c.over-in-Announce.result) (sym c.in-Announce.is) c.over-in-Announce.ensures.unhidden

pub returns-in-StartPull-clause-unhidden : goal.returns-in-StartPull-clause-unhidden
returns-in-StartPull-clause-unhidden g c =
    subst (λ (step : Step). HidesNone step (failed_by step c.within-in-StartPull.new.self.members) (cluster_of c.args.self.now) c.within-in-StartPull.result) (sym c.in-StartPull.is) c.within-in-StartPull.ensures.unhidden

pub returns-in-Ask-clause-unhidden : goal.returns-in-Ask-clause-unhidden
returns-in-Ask-clause-unhidden g c =
    subst (λ (step : Step). HidesNone step (failed_by step c.over-in-Ask.new.self.members) (cluster_of c.args.self.now) c.over-in-Ask.result) (sym c.in-Ask.is) c.over-in-Ask.ensures.unhidden
