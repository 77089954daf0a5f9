use Rattle.std.proofs.Common.{◌∙◌, ap, ap₂}
use Rattle.bep_json.specs.Taking.{both, due_or}
use Rattle.bep_document.proofs.take.shares.things_told.Goals as goal

pub returns : goal.returns
returns c =
    let slots = c.args.slots in
    let own = c.due_or.ensures ∙ ap (λ none. due_or none slots.own) c.none.ensures in
    let store = c.due_or-2.ensures ∙ ap (λ none. due_or none slots.store) (c.new-2.ensures ∙ c.new.ensures.items) in
    let views = c.due_or-3.ensures ∙ ap (λ none. due_or none slots.views) (c.new-4.ensures ∙ c.new-3.ensures.items) in
    let pulls = c.due_or-4.ensures ∙ ap (λ none. due_or none slots.pulls) c.none-2.ensures in
    let lists = c.both-3.ensures ∙ ap₂ both own (c.both-2.ensures ∙ ap₂ both store (c.both.ensures ∙ ap₂ both views pulls)) in
    let index = c.both-5.ensures ∙ ap₂ both c.due-3.ensures (c.both-4.ensures ∙ ap₂ both c.due-4.ensures lists) in
    c.both-7.ensures ∙ ap₂ both c.due.ensures (c.both-6.ensures ∙ ap₂ both c.due-2.ensures index)
