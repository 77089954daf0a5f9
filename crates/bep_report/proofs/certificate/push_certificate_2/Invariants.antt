use Rattle.std.proofs.Common.{◌≡◌, ◌++◌, take, drop}
use Rattle.bep_report.specs.Certificate.{certificate_lines_2}
use Rattle.bep_report.proofs.certificate.push_certificate_2.Given as goal

-- the text so far with the lines of the rows that are left is the whole; the old text stands at its front
abbrev pub invariant-loop-row : goal.invariant-loop-row
invariant-loop-row l =
    record {
      whole : l.text.items ++ certificate_lines_2 (drop l.row-index l.certificate) ≡ l.fn.text.items ++ certificate_lines_2 l.certificate;
      front : take l.len l.text.items ≡ l.fn.text.items;
    }
