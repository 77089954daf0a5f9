use Rattle.std.proofs.Common.{rules, ◌≡◌, arith}
use Rattle.std.proofs.lemmas.List.{append-nil, append_assoc}
use Rattle.std.proofs.lemmas.Result.{IfOk-equal}
use Rattle.bep_record.proofs.ConflictFacts.{hex_digits_none, hex_digits_more}
use Rattle.bep_record.proofs.conflict.+push_hex.Goals as goal

pub returns-then-count-eq0 : goal.returns-then-count-eq0
returns-then-count-eq0 t c = let none : c.args.count ≡ 0 = omega arith in rw (none, hex_digits_none, append-nil)

pub returns : goal.returns
returns t c = rw (hex_digits_more c.args.count c.args.number (omega arith)) (search (rules, IfOk-equal, append_assoc))
