use Rattle.std.proofs.Common.{List, ◌∙◌, sym, subst, true≢false}
use Rattle.std.specs.Option.{option_copied}
use Rattle.bep_model.specs.declared.flight.Flight.{Flight}
use Rattle.bep_audit.specs.inner.Foreign.{EndPasses, LinkPasses}
use Rattle.bep_audit.proofs.foreign.link_passes.Goals as goal

pub returns-then-end_passes : goal.returns-then-end_passes
unfolding LinkPasses
returns-then-end_passes c =
    let link = c.args.link.now in
    let at_a = λ (flights : List Flight). EndPasses c.args.row.now (option_copied c.args.own) c.args.device link.a flights in
    let at_b = λ (flights : List Flight). EndPasses c.args.row.now (option_copied c.args.own) c.args.device link.b flights in
    let to_a = subst at_a c.as_slice.ensures (c.end_passes.ensures.0 c.if-end_passes.true) in (
      λ is. (to_a, subst at_b c.as_slice-then-end_passes.ensures (c.end_passes-then-end_passes.ensures.0 is)),
      λ both. c.end_passes-then-end_passes.ensures.1 (subst at_b (sym c.as_slice-then-end_passes.ensures) both.1),
    )

pub returns-else-end_passes : goal.returns-else-end_passes
unfolding LinkPasses
returns-else-end_passes c =
    let at_a = λ (flights : List Flight). EndPasses c.args.row.now (option_copied c.args.own) c.args.device c.args.link.now.a flights in (
      λ is. absurd (true≢false (sym is ∙ c.if-end_passes.false)),
      λ both. c.end_passes.ensures.1 (subst at_a (sym c.as_slice.ensures) both.0),
    )
