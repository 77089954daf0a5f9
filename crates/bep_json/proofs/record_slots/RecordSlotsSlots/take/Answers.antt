use Rattle.std.specs.Prelude.{codes}
use Rattle.std.proofs.Common.{◌∙◌, refl, sym, ap, ap₂}
use Rattle.bep_tree.specs.Names.{is_among}
use Rattle.bep_tree.proofs.Walking.{reaches_so}
use Rattle.bep_json.specs.Taking.{with_member}
use Rattle.bep_json.proofs.TakingFacts.{fills, other_name, neither}
use Rattle.bep_json.specs.inner.Records.{record_names, record_slots}
use Rattle.bep_json.proofs.record_slots.RecordSlotsSlots.take.Goals as goal

pub returns-in-name-clause-value : goal.returns-in-name-clause-value
returns-in-name-clause-value c = λ look d rest known stood.
    let slots = record_slots c.args.version in
    reaches_so _ _ c.fill_leaf.result (λ filled is.
    fills record_names slots c.args.key.now d look _ _ _ rest filled is.0 (ap (λ k. is_among k record_names) c.in-name.is)
    (ap₂ (λ slot s. record { name = slot; kind = s.kind; modified_s = s.modified_s; modified_by = s.modified_by; counters = s.counters; sequence = s.sequence; size = s.size; modified_ns = s.modified_ns; deleted = s.deleted; invalid = s.invalid; block_size = s.block_size; hashes = s.hashes; target = s.target }) is.1 known ∙ ap (λ k. slots (with_member k d look)) (sym c.in-name.is)) is.2)
    (c.fill_leaf.ensures.value d rest stood)

pub returns-in-type-clause-value : goal.returns-in-type-clause-value
returns-in-type-clause-value c = λ look d rest known stood.
    let slots = record_slots c.args.version in
    reaches_so _ _ c.fill_leaf-in-type.result (λ filled is.
    fills record_names slots c.args.key.now d look _ _ _ rest filled is.0 (ap (λ k. is_among k record_names) c.in-type.is)
    (ap₂ (λ slot s. record { name = s.name; kind = slot; modified_s = s.modified_s; modified_by = s.modified_by; counters = s.counters; sequence = s.sequence; size = s.size; modified_ns = s.modified_ns; deleted = s.deleted; invalid = s.invalid; block_size = s.block_size; hashes = s.hashes; target = s.target }) is.1 known ∙ ap (λ k. slots (with_member k d look)) (sym c.in-type.is)) is.2)
    (c.fill_leaf-in-type.ensures.value d rest stood)

pub returns-in-modified_s-clause-value : goal.returns-in-modified_s-clause-value
returns-in-modified_s-clause-value c = λ look d rest known stood.
    let slots = record_slots c.args.version in
    reaches_so _ _ c.fill_leaf-in-modified_s.result (λ filled is.
    fills record_names slots c.args.key.now d look _ _ _ rest filled is.0 (ap (λ k. is_among k record_names) c.in-modified_s.is)
    (ap₂ (λ slot s. record { name = s.name; kind = s.kind; modified_s = slot; modified_by = s.modified_by; counters = s.counters; sequence = s.sequence; size = s.size; modified_ns = s.modified_ns; deleted = s.deleted; invalid = s.invalid; block_size = s.block_size; hashes = s.hashes; target = s.target }) is.1 known ∙ ap (λ k. slots (with_member k d look)) (sym c.in-modified_s.is)) is.2)
    (c.fill_leaf-in-modified_s.ensures.value d rest stood)

pub returns-in-modified_by-clause-value : goal.returns-in-modified_by-clause-value
returns-in-modified_by-clause-value c = λ look d rest known stood.
    let slots = record_slots c.args.version in
    reaches_so _ _ c.fill_leaf-in-modified_by.result (λ filled is.
    fills record_names slots c.args.key.now d look _ _ _ rest filled is.0 (ap (λ k. is_among k record_names) c.in-modified_by.is)
    (ap₂ (λ slot s. record { name = s.name; kind = s.kind; modified_s = s.modified_s; modified_by = slot; counters = s.counters; sequence = s.sequence; size = s.size; modified_ns = s.modified_ns; deleted = s.deleted; invalid = s.invalid; block_size = s.block_size; hashes = s.hashes; target = s.target }) is.1 known ∙ ap (λ k. slots (with_member k d look)) (sym c.in-modified_by.is)) is.2)
    (c.fill_leaf-in-modified_by.ensures.value d rest stood)

pub returns-in-version-clause-value : goal.returns-in-version-clause-value
returns-in-version-clause-value c = λ look d rest known stood.
    let slots = record_slots c.args.version in
    reaches_so _ _ c.fill.result (λ filled is.
    fills record_names slots c.args.key.now d look _ _ _ rest filled is.0 (ap (λ k. is_among k record_names) c.in-version.is)
    (ap₂ (λ slot s. record { name = s.name; kind = s.kind; modified_s = s.modified_s; modified_by = s.modified_by; counters = slot; sequence = s.sequence; size = s.size; modified_ns = s.modified_ns; deleted = s.deleted; invalid = s.invalid; block_size = s.block_size; hashes = s.hashes; target = s.target }) is.1 known ∙ ap (λ k. slots (with_member k d look)) (sym c.in-version.is)) is.2)
    (c.fill.ensures.value d rest stood)

pub returns-in-sequence-clause-value : goal.returns-in-sequence-clause-value
returns-in-sequence-clause-value c = λ look d rest known stood.
    let slots = record_slots c.args.version in
    reaches_so _ _ c.fill_leaf-in-sequence.result (λ filled is.
    fills record_names slots c.args.key.now d look _ _ _ rest filled is.0 (ap (λ k. is_among k record_names) c.in-sequence.is)
    (ap₂ (λ slot s. record { name = s.name; kind = s.kind; modified_s = s.modified_s; modified_by = s.modified_by; counters = s.counters; sequence = slot; size = s.size; modified_ns = s.modified_ns; deleted = s.deleted; invalid = s.invalid; block_size = s.block_size; hashes = s.hashes; target = s.target }) is.1 known ∙ ap (λ k. slots (with_member k d look)) (sym c.in-sequence.is)) is.2)
    (c.fill_leaf-in-sequence.ensures.value d rest stood)

pub returns-in-size-clause-value : goal.returns-in-size-clause-value
returns-in-size-clause-value c = λ look d rest known stood.
    let slots = record_slots c.args.version in
    reaches_so _ _ c.fill_leaf-in-size.result (λ filled is.
    fills record_names slots c.args.key.now d look _ _ _ rest filled is.0 (ap (λ k. is_among k record_names) c.in-size.is)
    (ap₂ (λ slot s. record { name = s.name; kind = s.kind; modified_s = s.modified_s; modified_by = s.modified_by; counters = s.counters; sequence = s.sequence; size = slot; modified_ns = s.modified_ns; deleted = s.deleted; invalid = s.invalid; block_size = s.block_size; hashes = s.hashes; target = s.target }) is.1 known ∙ ap (λ k. slots (with_member k d look)) (sym c.in-size.is)) is.2)
    (c.fill_leaf-in-size.ensures.value d rest stood)

pub returns-in-modified_ns-clause-value : goal.returns-in-modified_ns-clause-value
returns-in-modified_ns-clause-value c = λ look d rest known stood.
    let slots = record_slots c.args.version in
    reaches_so _ _ c.fill_leaf-in-modified_ns.result (λ filled is.
    fills record_names slots c.args.key.now d look _ _ _ rest filled is.0 (ap (λ k. is_among k record_names) c.in-modified_ns.is)
    (ap₂ (λ slot s. record { name = s.name; kind = s.kind; modified_s = s.modified_s; modified_by = s.modified_by; counters = s.counters; sequence = s.sequence; size = s.size; modified_ns = slot; deleted = s.deleted; invalid = s.invalid; block_size = s.block_size; hashes = s.hashes; target = s.target }) is.1 known ∙ ap (λ k. slots (with_member k d look)) (sym c.in-modified_ns.is)) is.2)
    (c.fill_leaf-in-modified_ns.ensures.value d rest stood)

pub returns-in-deleted-clause-value : goal.returns-in-deleted-clause-value
returns-in-deleted-clause-value c = λ look d rest known stood.
    let slots = record_slots c.args.version in
    reaches_so _ _ c.fill_leaf-in-deleted.result (λ filled is.
    fills record_names slots c.args.key.now d look _ _ _ rest filled is.0 (ap (λ k. is_among k record_names) c.in-deleted.is)
    (ap₂ (λ slot s. record { name = s.name; kind = s.kind; modified_s = s.modified_s; modified_by = s.modified_by; counters = s.counters; sequence = s.sequence; size = s.size; modified_ns = s.modified_ns; deleted = slot; invalid = s.invalid; block_size = s.block_size; hashes = s.hashes; target = s.target }) is.1 known ∙ ap (λ k. slots (with_member k d look)) (sym c.in-deleted.is)) is.2)
    (c.fill_leaf-in-deleted.ensures.value d rest stood)

pub returns-in-invalid-clause-value : goal.returns-in-invalid-clause-value
returns-in-invalid-clause-value c = λ look d rest known stood.
    let slots = record_slots c.args.version in
    reaches_so _ _ c.fill_leaf-in-invalid.result (λ filled is.
    fills record_names slots c.args.key.now d look _ _ _ rest filled is.0 (ap (λ k. is_among k record_names) c.in-invalid.is)
    (ap₂ (λ slot s. record { name = s.name; kind = s.kind; modified_s = s.modified_s; modified_by = s.modified_by; counters = s.counters; sequence = s.sequence; size = s.size; modified_ns = s.modified_ns; deleted = s.deleted; invalid = slot; block_size = s.block_size; hashes = s.hashes; target = s.target }) is.1 known ∙ ap (λ k. slots (with_member k d look)) (sym c.in-invalid.is)) is.2)
    (c.fill_leaf-in-invalid.ensures.value d rest stood)

pub returns-in-block_size-clause-value : goal.returns-in-block_size-clause-value
returns-in-block_size-clause-value c = λ look d rest known stood.
    let slots = record_slots c.args.version in
    reaches_so _ _ c.fill_leaf-in-block_size.result (λ filled is.
    fills record_names slots c.args.key.now d look _ _ _ rest filled is.0 (ap (λ k. is_among k record_names) c.in-block_size.is)
    (ap₂ (λ slot s. record { name = s.name; kind = s.kind; modified_s = s.modified_s; modified_by = s.modified_by; counters = s.counters; sequence = s.sequence; size = s.size; modified_ns = s.modified_ns; deleted = s.deleted; invalid = s.invalid; block_size = slot; hashes = s.hashes; target = s.target }) is.1 known ∙ ap (λ k. slots (with_member k d look)) (sym c.in-block_size.is)) is.2)
    (c.fill_leaf-in-block_size.ensures.value d rest stood)

pub returns-in-blocks-clause-value : goal.returns-in-blocks-clause-value
returns-in-blocks-clause-value c = λ look d rest known stood.
    let slots = record_slots c.args.version in
    reaches_so _ _ c.fill-in-blocks.result (λ filled is.
    fills record_names slots c.args.key.now d look _ _ _ rest filled is.0 (ap (λ k. is_among k record_names) c.in-blocks.is)
    (ap₂ (λ slot s. record { name = s.name; kind = s.kind; modified_s = s.modified_s; modified_by = s.modified_by; counters = s.counters; sequence = s.sequence; size = s.size; modified_ns = s.modified_ns; deleted = s.deleted; invalid = s.invalid; block_size = s.block_size; hashes = slot; target = s.target }) is.1 known ∙ ap (λ k. slots (with_member k d look)) (sym c.in-blocks.is)) is.2)
    (c.fill-in-blocks.ensures.value d rest stood)

pub returns-in-target-clause-value : goal.returns-in-target-clause-value
returns-in-target-clause-value c = λ look d rest known stood.
    let slots = record_slots c.args.version in
    reaches_so _ _ c.fill_leaf-in-target.result (λ filled is.
    fills record_names slots c.args.key.now d look _ _ _ rest filled is.0 (ap (λ k. is_among k record_names) c.in-target.is)
    (ap₂ (λ slot s. record { name = s.name; kind = s.kind; modified_s = s.modified_s; modified_by = s.modified_by; counters = s.counters; sequence = s.sequence; size = s.size; modified_ns = s.modified_ns; deleted = s.deleted; invalid = s.invalid; block_size = s.block_size; hashes = s.hashes; target = slot }) is.1 known ∙ ap (λ k. slots (with_member k d look)) (sym c.in-target.is)) is.2)
    (c.fill_leaf-in-target.ensures.value d rest stood)

pub returns-in_default-clause-value : goal.returns-in_default-clause-value
returns-in_default-clause-value c = λ look d rest known stood. let key = c.args.key.now in ((neither _ _ (other_name (codes "name") key c.in_default.not-name) (neither _ _ (other_name (codes "type") key c.in_default.not-type) (neither _ _ (other_name (codes "modified_s") key c.in_default.not-modified_s) (neither _ _ (other_name (codes "modified_by") key c.in_default.not-modified_by) (neither _ _ (other_name (codes "version") key c.in_default.not-version) (neither _ _ (other_name (codes "sequence") key c.in_default.not-sequence) (neither _ _ (other_name (codes "size") key c.in_default.not-size) (neither _ _ (other_name (codes "modified_ns") key c.in_default.not-modified_ns) (neither _ _ (other_name (codes "deleted") key c.in_default.not-deleted) (neither _ _ (other_name (codes "invalid") key c.in_default.not-invalid) (neither _ _ (other_name (codes "block_size") key c.in_default.not-block_size) (neither _ _ (other_name (codes "blocks") key c.in_default.not-blocks) (neither _ _ (other_name (codes "target") key c.in_default.not-target) refl))))))))))))), refl)
