use Rattle.bep_audit.proofs.LooseFacts.{entries_from_reasons, reasons_from_entries}
use Rattle.bep_audit.proofs.firm.entries_are_asked.Goals as goal

pub returns : goal.returns
returns c cut table rows loose is_cut grouped = (
  reasons_from_entries c.entries_are_held.ensures.held c.entries_are_held.ensures.shares cut is_cut table grouped rows loose,
  entries_from_reasons c.entries_are_held.ensures.held c.entries_are_held.ensures.shares cut is_cut table grouped rows loose,
)
