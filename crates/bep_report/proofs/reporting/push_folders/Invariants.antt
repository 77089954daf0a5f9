use Rattle.std.proofs.Common.{◌≡◌, ◌++◌, take, drop}
use Rattle.bep_report.specs.Report.{folders_text}
use Rattle.bep_report.proofs.reporting.push_folders.Given as goal

-- the text so far with the lines of the folders that are left is the whole; the old text stands at its front
abbrev pub invariant-loop-held : goal.invariant-loop-held
invariant-loop-held l =
    record {
      whole : l.text.items ++ folders_text l.cut (drop l.held-index l.folders) ≡ l.fn.text.items ++ folders_text l.cut l.folders;
      front : take l.len l.text.items ≡ l.fn.text.items;
    }
