use Rattle.std.proofs.Common.{◌≤◌, length, sym, subst, ◌∙◌}
use Rattle.std.proofs.lemmas.List.{length-take-le}
use Rattle.bep_audit.proofs.NameWalk.{count_within}
use Rattle.bep_converge_check.proofs.walk.entries_at.Goals as goal

pub slice_bounds-result-end : goal.slice_bounds-result-end
slice_bounds-result-end c =
    sym (length-take-le c.count_of-count.result c.args.entries.now
    (subst (λ count. count ≤ length c.args.entries.now) (sym c.count_of-count.ensures) (count_within (c.args.folder.now, c.args.name.now) c.args.entries.now)))

pub returns-clause-count : goal.returns-clause-count
returns-clause-count c =
    length-take-le c.count_of-count.result c.args.entries.now
    (subst (λ count. count ≤ length c.args.entries.now) (sym c.count_of-count.ensures) (count_within (c.args.folder.now, c.args.name.now) c.args.entries.now))
    ∙ c.count_of-count.ensures
