use Rattle.std.proofs.Common.{◌∙◌, ap, ap₂}
use Rattle.bep_json.specs.Taking.{both, due_or}
use Rattle.bep_document.proofs.take.links.things_told.Goals as goal

pub returns : goal.returns
returns c =
    let slots = c.args.slots in
    let to_a = c.due_or.ensures ∙ ap (λ none. due_or none slots.to_a) c.none.ensures in
    let to_b = c.due_or-2.ensures ∙ ap (λ none. due_or none slots.to_b) c.none-2.ensures in
    let queues = c.both.ensures ∙ ap₂ both to_a to_b in
    let epoch = c.both-2.ensures ∙ ap₂ both c.due-4.ensures queues in
    let up = c.both-3.ensures ∙ ap₂ both c.due-3.ensures epoch in
    c.both-5.ensures ∙ ap₂ both c.due.ensures (c.both-4.ensures ∙ ap₂ both c.due-2.ensures up)
