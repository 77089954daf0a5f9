use Rattle.json.specs.Written.{Written}
use Rattle.serde_json.specs.Data.{Items}
use Rattle.bep_json.specs.Added.{AddsItems}
use Rattle.bep_explain.proofs.details_json.write_details.Given as goal

-- whatever items come next, with those so far they are a list
abbrev pub invariant-loop-detail : goal.invariant-loop-detail
invariant-loop-detail l = (end : Written) (next : Items) → AddsItems next l.out end → (all : Items) × AddsItems all l.initial.out end
