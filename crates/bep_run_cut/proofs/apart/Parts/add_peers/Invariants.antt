use Rattle.std.proofs.Common.{◌≡◌, ◌++◌, map}
use Rattle.std.specs.List.{AllByRecursion}
use Rattle.bep_run_cut.specs.RunCut.{IsReplayedCopy, device_log, members_base, members_now}
use Rattle.bep_run_cut.proofs.apart.Parts.add_peers.Given as goal

-- the parts so far, with those of the copies that are left, are all of them
abbrev pub invariant-loop-copy : goal.invariant-loop-copy
invariant-loop-copy l = record {
  peers : l.self.peers.items ++ members_now l.copy-iterator.rest.items ≡ l.fn.self.peers.items ++ members_now l.fn.copies.items;
  base_peers : l.self.base_peers.items ++ members_base l.copy-iterator.rest.items ≡ l.fn.self.base_peers.items ++ members_base l.fn.copies.items;
  links : l.self.links.items ≡ l.fn.self.links.items;
  base_links : l.self.base_links.items ≡ l.fn.self.base_links.items;
  logs : l.self.logs.items ++ map device_log l.copy-iterator.rest.items ≡ l.fn.self.logs.items ++ map device_log l.fn.copies.items;
  replayed : AllByRecursion IsReplayedCopy l.copy-iterator.rest.items → AllByRecursion IsReplayedCopy l.fn.copies.items;
}
