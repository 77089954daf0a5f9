use Rattle.std.proofs.Common.{List, take, sym, subst, arith}
use Rattle.std.proofs.lemmas.Grind.{common_steps}
use Rattle.std.proofs.lemmas.List.{take_all}
use Rattle.bep_facts.specs.Places.{done_with}
use Rattle.bep_model.specs.Tables.{Device}
use Rattle.bep_folder.specs.inner.Chosen.{AreNamed, viewed_among}
use Rattle.bep_folder.proofs.KnownFacts.{lent_own, viewed_named}
use Rattle.bep_folder.proofs.pull.chosen.gather.Goals as goal

pub loop-other-preserved : goal.loop-other-preserved
loop-other-preserved c = record {
  gathered = grind (arith, common_steps);
  named =
      subst (λ (done : List Device). AreNamed c.args.name.now (viewed_among c.args.views.now c.args.name.now done))
      (sym (done_with c.args.devices.now c.loop-other.other-index c.other-item.result c.loop-other-test.true c.other-item.is))
      (viewed_named c.args.views.now c.args.name.now (take c.loop-other.other-index c.args.devices.now) c.other-item.result c.loop-other.invariant.named
      (lent_own c.args.name.now c.viewed.result _ c.viewed.ensures.value c.viewed.ensures.named));
  within = omega arith;
  size = grind (arith, common_steps);
}

pub returns-clause-named : goal.returns-clause-named
returns-clause-named c =
    subst (λ (done : List Device). AreNamed c.args.name.now (viewed_among c.args.views.now c.args.name.now done))
    (take_all c.loop-other.other-index c.args.devices.now (omega arith)) c.loop-other.invariant.named
