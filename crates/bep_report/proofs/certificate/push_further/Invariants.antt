use Rattle.std.proofs.Common.{◌≡◌, ◌++◌, take, drop}
use Rattle.bep_report.specs.Certificate.{further_text}
use Rattle.bep_report.proofs.certificate.push_further.Given as goal

-- the text so far with what is left to append is the whole; the old text stands at its front
abbrev pub invariant-loop-counter : goal.invariant-loop-counter
invariant-loop-counter l =
    record {
      whole : l.text.items ++ further_text (drop l.counter-index l.counters) ≡ l.fn.text.items ++ further_text l.counters;
      front : take l.len l.text.items ≡ l.fn.text.items;
    }
