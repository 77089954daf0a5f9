use Rattle.std.proofs.Common.{◌≡◌, ◌++◌, ℕ, List, IsUtf8, OnOk, Result, Ok, Err, if◌then◌else◌}
use Rattle.std.specs.Result.{is_ok}
use Rattle.bep_live.proofs.LineText.{text_with}
use Rattle.bep_live.proofs.logs.append.Goals as goal

extended : {T E : Type 0} (result : Result T E) (old new more : List ℕ) → IsUtf8 more → new ≡ (if is_ok result then old ++ more else old) → OnOk result (IsUtf8 old → IsUtf8 new)
extended {T} {E} (Ok done) old new more is made = text_with {T = T} {E = E} (Ok done) old new more is made
extended (Err error) old new more is made = tt

pub returns-clause-text : goal.returns-clause-text
returns-clause-text c =
    extended c.extend_from_slice.result c.args.text.now.items c.extend_from_slice.new.self.items c.args.lines.now c.requires c.extend_from_slice.ensures.items
