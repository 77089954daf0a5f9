-- The cluster of a cut whose links are down, and whose views have no gap, is reached: nothing has to happen.
use Rattle.std.proofs.Common.{[], refl}
use Rattle.std.specs.Ordering.{nat_cmp}
use Rattle.bep_facts.specs.Maps.{nothing_in_empty}
use Rattle.bep_origin.specs.FromCut.{cluster_from}
use Rattle.bep_converge.specs.CutReached.{CutsAreReached}

pub cuts_are_reached_lem : CutsAreReached
cuts_are_reached_lem cut sound gapless earlier down = record {
  first = cluster_from cut;
  events = [];
  sound = sound;
  apart = record {
    gapless = gapless;
    earlier = earlier;
    sessions = λ device other session has. nothing_in_empty nat_cmp other session has;
    links = down;
  };
  made = tt;
  run = refl;
}
