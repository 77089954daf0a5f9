use Rattle.std.proofs.Common.{◌∙◌, ap, ap₂}
use Rattle.bep_json.specs.Taking.{both, due_or}
use Rattle.bep_json.proofs.node_slots.things_told.Goals as goal

pub returns : goal.returns
returns c =
    let slots = c.args.slots in
    let target = c.due_or-target.ensures ∙ ap (λ none. due_or none slots.target) c.empty.ensures in
    let modified_ns = c.due_or-modified_ns.ensures ∙ ap (λ none. due_or none slots.modified_ns) c.new.ensures in
    let rest = c.both-2.ensures ∙ ap₂ both modified_ns (c.both.ensures ∙ ap₂ both c.body_told-bytes.ensures target) in
    c.both-5.ensures ∙ ap₂ both c.due.ensures (c.both-4.ensures ∙ ap₂ both c.due-2.ensures (c.both-3.ensures ∙ ap₂ both c.due-3.ensures rest))
