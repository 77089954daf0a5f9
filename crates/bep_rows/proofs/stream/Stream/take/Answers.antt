use Rattle.std.proofs.Common.{◌∷◌, Some, ap, subst, sym, ◌∙◌}
use Rattle.bep_rows.specs.declared.standing.Standing.{Standing}
use Rattle.bep_rows.specs.Standing.{joined}
use Rattle.bep_rows.specs.Names.{Key}
use Rattle.bep_rows.specs.Stream.{IsReadTo}
use Rattle.bep_rows.proofs.Reading.{one_more_read}
use Rattle.bep_rows.proofs.stream.Stream.take.Goals as goal

pub returns-clause-read : goal.returns-clause-read
returns-clause-read c aim t keys read is =
    let key : Key = (c.args.folder, c.args.name) in
    subst (λ (standing : Standing). IsReadTo aim t (key ∷ keys) (record { last = Some key; standing = standing }))
    (sym (c.joined.ensures ∙ ap (λ (before : Standing). joined before c.args.here) c.replace-before.ensures.value))
    (one_more_read aim t (record { settled = c.verdict_by_parts.ensures.settled; firm = c.verdict_by_parts.ensures.firm }) keys c.args.self.now key c.args.here read (c.is_above.ensures.0 c.if-not-is_above.false) is)
