use Rattle.std.proofs.Common.{drop, map}
use Rattle.json.specs.Written.{Written}
use Rattle.serde_json.specs.View.{items_of}
use Rattle.bep_json.specs.Added.{AddsItems}
use Rattle.bep_json.specs.Written.{counter_written}
use Rattle.bep_json.proofs.writing.write_version.Given as goal

-- once the counters that are left are written too, all are
abbrev pub invariant-loop-counter : goal.invariant-loop-counter
invariant-loop-counter l =
    (end : Written) → AddsItems (items_of (map counter_written (drop l.counter-index l.version))) l.out end → AddsItems (items_of (map counter_written l.version)) l.initial.out end
