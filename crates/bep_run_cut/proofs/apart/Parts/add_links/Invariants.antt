use Rattle.std.proofs.Common.{◌≡◌, ◌++◌, map}
use Rattle.std.specs.List.{AllByRecursion}
use Rattle.bep_run_cut.specs.RunCut.{IsLinkReplayedCopy, link_log, links_base, links_now}
use Rattle.bep_run_cut.proofs.apart.Parts.add_links.Given as goal

-- the parts so far, with those of the copies that are left, are all of them
abbrev pub invariant-loop-copy : goal.invariant-loop-copy
invariant-loop-copy l = record {
  peers : l.self.peers.items ≡ l.fn.self.peers.items;
  base_peers : l.self.base_peers.items ≡ l.fn.self.base_peers.items;
  links : l.self.links.items ++ links_now l.copy-iterator.rest.items ≡ l.fn.self.links.items ++ links_now l.fn.copies.items;
  base_links : l.self.base_links.items ++ links_base l.copy-iterator.rest.items ≡ l.fn.self.base_links.items ++ links_base l.fn.copies.items;
  logs : l.self.logs.items ++ map link_log l.copy-iterator.rest.items ≡ l.fn.self.logs.items ++ map link_log l.fn.copies.items;
  replayed : AllByRecursion IsLinkReplayedCopy l.copy-iterator.rest.items → AllByRecursion IsLinkReplayedCopy l.fn.copies.items;
}
