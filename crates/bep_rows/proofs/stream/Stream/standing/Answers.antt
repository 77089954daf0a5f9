use Rattle.bep_rows.proofs.Reading.{all_read}
use Rattle.bep_rows.proofs.stream.Stream.standing.Goals as goal

pub returns-clause-whole : goal.returns-clause-whole
returns-clause-whole c aim t keys = all_read aim t (record { settled = c.verdict_by_parts.ensures.settled; firm = c.verdict_by_parts.ensures.firm }) keys c.args.self.now
