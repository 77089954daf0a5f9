use Rattle.bep_tables.specs.Listed.{listed}
use Rattle.bep_explain.proofs.LooseFacts.{each_is_all}
use Rattle.bep_explain.proofs.loose.meets.Goals as goal

pub returns : goal.returns
returns c =
    let all = each_is_all c.args.rows.now c.about.result.now (listed c.args.entry.now) (c.about.ensures c.requires) in
    (λ holds. all.0 (c.meets_each.ensures.0 holds), λ meets. c.meets_each.ensures.1 (all.1 meets))
