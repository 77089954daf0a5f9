use Rattle.std.proofs.Common.{◌≡◌, ◌≤◌, ◌+◌, ◌++◌, take, length}
use Rattle.bep_choice.specs.Choice.{candidates_of}
use Rattle.bep_folder.specs.inner.Chosen.{AreNamed, viewed_among}
use Rattle.bep_folder.proofs.pull.chosen.gather.Given as goal

-- the records of the devices so far stand behind the first ones
abbrev pub invariant-loop-other : goal.invariant-loop-other
invariant-loop-other l = record {
  gathered : candidates_of (take l.count l.found) ≡ candidates_of (take l.first l.fn.found) ++ viewed_among l.views l.name (take l.other-index l.devices);
  named : AreNamed l.name (viewed_among l.views l.name (take l.other-index l.devices));
  within : l.count ≤ l.first + l.other-index;
  size : length l.found ≡ length l.fn.found;
}
