use Rattle.std.proofs.Common.{[], sym, subst}
use Rattle.bep_tree.specs.Walk.{Stands}
use Rattle.bep_tree.proofs.Walking.{reaches_so}
use Rattle.bep_document.proofs.told.Readings.{document_stands}
use Rattle.bep_row_document.proofs.reading.told_in.Goals as goal

pub returns : goal.returns
returns c = λ d is.
    let stood = subst (λ ts. Stands 127 ts d []) (sym c.in_ok-reader.ensures.ok) (document_stands c.args.text.now d is) in
    reaches_so _ _ c.take.result (λ told reached. reached.0) (c.take.ensures.value d [] stood)
