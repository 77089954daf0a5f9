use Rattle.std.proofs.Common.{◌≡◌, ◌<◌, subst}
use Rattle.std.specs.Option.{option_copied}
use Rattle.bep_record.specs.Vector.{most_counters, ids_in_either}
use Rattle.bep_machine.specs.Replica.{version_of}
use Rattle.bep_folder.proofs.pull.record.merged.Goals as goal

pub returns-in-Ok-clause-many : goal.returns-in-Ok-clause-many
returns-in-Ok-clause-many c =
    let own : c.version_of-version.result ≡ version_of (option_copied c.args.own) = c.version_of-version.ensures in
    let other : c.entry.result.now ≡ c.args.other.now = c.entry.ensures.value in
    let vector : c.vector.result ≡ c.entry.result.now.version = c.vector.ensures in
    let same : ids_in_either (version_of (option_copied c.args.own)) c.args.other.now.version ≡ ids_in_either c.version_of-version.result c.vector.result = cc in
    (λ bad. absurd (cc), λ over. let bad = c.in-Ok.ensures.many.1 (subst (λ n. most_counters < n) same over) in absurd (cc))
