use Rattle.std.proofs.Common.{rules, tests}
use Rattle.std.specs.Prelude.{⊤}
use Rattle.std.specs.Option.{option_copied}
use Rattle.std.proofs.lemmas.Iterator.{YieldsList-from_slice, cases_from_all}
use Rattle.bep_row.proofs.Each.{each_passes}
use Rattle.bep_row.proofs.plain.are_kept.Goals as goal
use Rattle.bep_row.specs.Plain.{IsHeld, IsKeptBy}
use Rattle.bep_row.specs.Row.{cell_of}
use Rattle.bep_tables.specs.declared.share.Share.{Share}

pub returns : goal.returns
returns c passes held share member =
    let P = λ (one : Share). IsHeld c.args.first.now (option_copied c.args.known) → IsKeptBy c.args.row.now c.args.first.now (cell_of c.args.row.now.devices one.device) in
    let Q = λ (one : Share). ⊤ in
    each_passes P Q c.all.result c.args.shares.now
    (cases_from_all _ _ _ P Q c.all.ensures.ran (YieldsList-from_slice c.args.shares.now cc) (λ x q k. search (rules, tests)) (λ x q k. search (rules, tests)))
    passes share member held
