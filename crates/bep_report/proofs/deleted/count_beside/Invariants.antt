use Rattle.std.proofs.Common.{◌≡◌, ◌+◌, ◌≤◌, drop}
use Rattle.bep_report.specs.Report.{count_deleted}
use Rattle.bep_report.specs.inner.Known.{names_lent}
use Rattle.bep_report.proofs.StoredFacts.{AreStored, IsNextStored}
use Rattle.bep_report.proofs.deleted.count_beside.Given as goal

-- the count so far with those of the names that are left is the count of all, and no more than the names so far; what is
-- left of the store is of names that are stored
abbrev pub invariant-loop-name : goal.invariant-loop-name
invariant-loop-name l =
    record {
      counted : l.count + count_deleted l.shares (names_lent (drop l.name-index l.names)) ≡ count_deleted l.shares (names_lent l.names);
      few : l.count ≤ l.name-index;
      next : IsNextStored l.shares l.next;
      rest : AreStored l.shares l.rest;
    }
