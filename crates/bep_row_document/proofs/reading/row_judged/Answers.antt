use Rattle.std.proofs.Common.{◌∙◌, sym, ap}
use Rattle.bep_document.specs.Reading.{Read, unless}
use Rattle.bep_row_document.specs.Reading.{row_judged, row_of}
use Rattle.bep_row_document.proofs.FaultFacts.{nothing_bad}
use Rattle.bep_row_document.proofs.reading.row_judged.Goals as goal

pub row_of-requires : goal.row_of-requires
row_of-requires c = nothing_bad c.args.header.now c.args.last.now c.args.text (sym c.in_ok-fault.ensures ∙ c.in-None.is)

pub returns-in-Some : goal.returns-in-Some
unfolding row_judged
returns-in-Some c = ap (λ found. unless found (row_of c.args.text)) (sym c.in_ok-fault.ensures ∙ c.in-Some.is)

pub returns-in_ok-row_of-in-None : goal.returns-in_ok-row_of-in-None
unfolding row_judged
returns-in_ok-row_of-in-None c = ap (λ found. unless found (row_of c.args.text)) (sym c.in_ok-fault.ensures ∙ c.in-None.is) ∙ ap (λ row. Read row) (sym c.in_ok-row_of-in-None.ensures)
