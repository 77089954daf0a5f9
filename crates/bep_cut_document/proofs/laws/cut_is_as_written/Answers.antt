use Rattle.bep_cut_document.proofs.CutWritten.{CutIsWritten, cut_is_written}
use Rattle.bep_cut_document.proofs.AsWrittenFacts.{sharing_is_as_written, own_is_as_written, node_is_as_written, target_is_as_written}
use Rattle.bep_cut_document.proofs.AsWrittenViews.{viewed_is_as_written}
use Rattle.bep_cut_document.proofs.AsWrittenLinks.{flying_is_as_written, unlinked_is_quiet}
use Rattle.bep_cut_document.proofs.laws.cut_is_as_written.Goals as goal

-- what a document without faults writes down is a cut
is_cut : (c : goal.After-records_make_an_index) → CutIsWritten
is_cut c = cut_is_written c.records_make_an_index.ensures.index c.records_make_an_index.ensures.found

pub returns-clause-sharing : goal.returns-clause-sharing
returns-clause-sharing c = sharing_is_as_written (is_cut c)

pub returns-clause-own : goal.returns-clause-own
returns-clause-own c = own_is_as_written (is_cut c) c.records_make_an_index.ensures.found

pub returns-clause-node : goal.returns-clause-node
returns-clause-node c = node_is_as_written (is_cut c)

pub returns-clause-viewed : goal.returns-clause-viewed
returns-clause-viewed c = viewed_is_as_written (is_cut c) c.records_make_an_index.ensures.found

pub returns-clause-target : goal.returns-clause-target
returns-clause-target c = target_is_as_written (is_cut c) c.records_make_an_index.ensures.found

pub returns-clause-flying : goal.returns-clause-flying
returns-clause-flying c = flying_is_as_written (is_cut c)

pub returns-clause-unlinked : goal.returns-clause-unlinked
returns-clause-unlinked c = unlinked_is_quiet
