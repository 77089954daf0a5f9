use Rattle.std.proofs.Common.{[], subst}
use Rattle.bep_cut.specs.Says.{Says}
use Rattle.bep_peer.specs.network.Network.{cluster_of}
use Rattle.bep_tables.specs.declared.cut.CutParts.{CutParts}
use Rattle.bep_fit.specs.declared.verdict.RunVerdict.TheVariants.{Fits}
use Rattle.bep_live.proofs.living.judge.Goals as goal

pub returns : goal.returns
returns c = record {
  a_run_cut = c.logs.ensures.a_run_cut;
  says = subst (λ (cut : CutParts). Says (cluster_of c.args.run.now.present) cut) c.cut.ensures.cut_of c.cut.ensures.says;
  judged = c.check_run.ensures.verdict;
  fits = let fit = c.requires.fit in (fit.0, c.logs_have_one_verdict.ensures.one c.args.run.now.logs c.check_run.result (Fits fit.0) c.check_run.ensures.verdict fit.1);
  one_run = c.check_run.ensures.one_run;
  stays = λ count fits base cut is_base is_cut rows settled.
      c.check_run.ensures.stays count fits base cut is_base is_cut rows [] settled c.requires.quiet c.requires.no_reset;
}
