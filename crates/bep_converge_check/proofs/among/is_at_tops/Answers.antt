use Rattle.std.proofs.Common.{map, subst}
use Rattle.std.specs.Option.{option_copied}
use Rattle.std.specs.Prelude.{IfSome, IfNone}
use Rattle.bep_record.specs.declared.entry.Entry.{Entry}
use Rattle.bep_tables.specs.Listed.{listed}
use Rattle.bep_converge_check.specs.inner.Records.{IsTopIn}
use Rattle.bep_converge_check.proofs.TopFacts.{at_none, at_each}
use Rattle.bep_converge_check.proofs.among.is_at_tops.Goals as goal

pub returns-in-None : goal.returns-in-None
returns-in-None c =
    let group = map listed c.args.group.now in
    at_none group (option_copied c.args.own) (subst (λ top. IfNone top ((one : Entry) → ¬ IsTopIn group one)) c.in-None.is c.requires.none)

pub returns-in-Some : goal.returns-in-Some
returns-in-Some c =
    let group = map listed c.args.group.now in
    let each = at_each group (option_copied c.args.own) c.in-Some.one.now (subst (λ top. IfSome top (λ one. IsTopIn group one.now)) c.in-Some.is c.requires.top) in
    (λ is. each.0 (c.is_at_each.ensures.0 is), λ all. c.is_at_each.ensures.1 (each.1 all))
