use Rattle.std.proofs.Common.{rules}
use Rattle.std.specs.Option.{option_copied}
use Rattle.bep_history.proofs.Chairs.{may_tell_of}
use Rattle.bep_history.proofs.chair.Chair.tell.Goals as goal

pub tell-requires-clause-may : goal.tell-requires-clause-may
tell-requires-clause-may g c =
    may_tell_of c.self.inside.place c.args.self.now c.in-Some.place (option_copied c.args.event) c.args.history.now.table.shared.key.items c.self.view_is (search rules) c.requires.may
