use Rattle.std.specs.Prelude.{◌==◌}
use Rattle.bep_rows_answer.proofs.FirstByte.{first_is_position}
use Rattle.bep_rows_answer.proofs.input.newline_at.Goals as goal

pub returns : goal.returns
returns c = first_is_position (λ byte. byte == 10) c.args.bytes.now c.memchr.result c.memchr.ensures
