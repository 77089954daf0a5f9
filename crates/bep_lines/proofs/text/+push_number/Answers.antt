use Rattle.std.proofs.Common.{rules, arith}
use Rattle.std.proofs.lemmas.Fmt.{decimal_step}
use Rattle.std.proofs.lemmas.List.{append_assoc}
use Rattle.bep_lines.proofs.text.+push_number.Goals as goal

pub returns : goal.returns
returns t c = rw (decimal_step c.args.number (omega arith) (omega arith)) (search (rules, append_assoc))
