use Rattle.std.proofs.Common.{◌∙◌, ap, ap₂}
use Rattle.bep_json.specs.Taking.{both, due_or}
use Rattle.bep_json.proofs.record_slots.things_told.Goals as goal

pub returns : goal.returns
returns c =
    let slots = c.args.slots in
    let hashes = c.due_or-hashes.ensures ∙ ap (λ none. due_or none slots.hashes) (c.new-2.ensures ∙ c.new.ensures.items) in
    let target = c.due_or.ensures ∙ ap (λ none. due_or none slots.target) c.empty.ensures in
    let block_size = c.both-told-2.ensures ∙ ap₂ both c.optional.ensures (c.both-told.ensures ∙ ap₂ both hashes target) in
    let deleted = c.both-told-4.ensures ∙ ap₂ both c.due_or-3.ensures (c.both-told-3.ensures ∙ ap₂ both c.due_or-2.ensures block_size) in
    let modified_ns = c.both-told-5.ensures ∙ ap₂ both (c.due_or-4.ensures ∙ ap (λ none. due_or none slots.modified_ns) c.new-3.ensures) deleted in
    let size = c.both-told-6.ensures ∙ ap₂ both (c.due_or-5.ensures ∙ ap (λ none. due_or none slots.size) c.zero.ensures) modified_ns in
    let counters = c.both-told-8.ensures ∙ ap₂ both c.due-2.ensures (c.both-told-7.ensures ∙ ap₂ both c.due.ensures size) in
    let modified_s = c.both-told-10.ensures ∙ ap₂ both c.due-4.ensures (c.both-told-9.ensures ∙ ap₂ both c.due-3.ensures counters) in
    c.both.ensures ∙ ap₂ both c.due-6.ensures (c.both-told-11.ensures ∙ ap₂ both c.due-5.ensures modified_s)
