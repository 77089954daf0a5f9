use Rattle.std.proofs.Common.{sym, subst, length, ap, ◌≡◌, ◌∙◌, ◌<◌, ◌^◌}
use Rattle.std.specs.FinMap as map
use Rattle.bep_index.specs.Batch.{with_all}
use Rattle.bep_index.proofs.PlaceFacts.{len-records, length-named}
use Rattle.bep_index.proofs.records.Records.len.Goals as goal

many : (c : goal.After-len) → c.len.result ≡ length c.args.self.now
many c = c.len.ensures.len ∙ ap length c.self.invariant.0 ∙ length-named _ ∙ ap length c.self.view_is

pub returns-clause-names : goal.returns-clause-names
returns-clause-names c =
    c.len.ensures.len ∙ ap length c.self.invariant.0 ∙ length-named _
    ∙ sym (len-records _ c.self.invariant.1.names) ∙ ap (λ es. map.len (with_all map.empty es)) c.self.view_is

pub returns-clause-value : goal.returns-clause-value
returns-clause-value c = many c

pub returns-clause-small : goal.returns-clause-small
returns-clause-small c = subst (λ n. n < 2 ^ 63) (many c) c.len.ensures.small
