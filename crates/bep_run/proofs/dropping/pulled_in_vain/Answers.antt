use Rattle.std.proofs.Common.{rules, ◌≡◌, fold}
use Rattle.std.specs.FinMap.{empty, keys}
use Rattle.bep_run.specs.inner.Dropping.{with_unwanted}
use Rattle.bep_run.proofs.Vain.{pulled_in_vain}
use Rattle.bep_run.proofs.dropping.pulled_in_vain.Goals as goal

pub returns : goal.returns
returns g c =
    let all : c.loop-name.names ≡ fold (with_unwanted c.in_ok-wanted.wanted) empty (keys c.args.replica.now.tables.pulls) = search rules in
    pulled_in_vain c.args.replica.now.device c.args.replica.now.tables c.in_ok-wanted.wanted c.loop-name.names c.in_ok-wanted.ensures all
