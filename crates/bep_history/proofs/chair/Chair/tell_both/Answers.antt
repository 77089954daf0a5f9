use Rattle.std.proofs.Common.{rules}
use Rattle.std.specs.Option.{option_copied}
use Rattle.bep_history.proofs.Chairs.{may_tell_of_both}
use Rattle.bep_history.proofs.chair.Chair.tell_both.Goals as goal

pub tell_both-requires-clause-may : goal.tell_both-requires-clause-may
tell_both-requires-clause-may g c =
    may_tell_of_both c.self.inside.place c.other.inside.place c.args.self.now c.args.other.now c.in-Some-Some.place c.in-Some-Some.its (option_copied c.args.event) c.args.history.now.table.shared.key.items c.self.view_is (search rules) c.other.view_is (search rules) c.requires.may
