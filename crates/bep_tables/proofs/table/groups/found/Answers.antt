use Rattle.std.proofs.Common.{◌∙◌, ap, sym}
use Rattle.bep_tables.specs.Listed.{Listed, key_at}
use Rattle.bep_tables.specs.inner.Groups.{key_in}
use Rattle.bep_tables.proofs.Rising.{place_in, same_place}
use Rattle.bep_tables.proofs.table.groups.found.Goals as goal

pub returns : goal.returns
returns c =
    let pairs = c.args.places.now.entries in
    c.copied.ensures
    ∙ c.get.ensures.value
    ∙ ap (λ (one : Listed). place_in pairs (key_at one)) c.of.ensures
    ∙ sym (same_place pairs c.len.ensures.ordered (key_in c.args.entry.now))
