use Rattle.std.proofs.Common.{rules, ◌≡◌, false, is_none, subst, sym}
use Rattle.std.specs.FinMap.{insert}
use Rattle.bep_map.specs.NameMap.{ByName}
use Rattle.bep_folder.specs.inner.Wanted.{AddsWanted}
use Rattle.bep_folder.proofs.WantedFacts.{found_wanted, adds_one}
use Rattle.bep_folder.proofs.replica.Replica.add_wanted.Goals as goal

pub returns : goal.returns
returns g c =
    let there : is_none c.wanted.result ≡ false = search rules in
    let wants = found_wanted c.args.self.now.device c.args.self.now.tables c.args.name.now c.wanted.result c.wanted.ensures.wanted there in
    let is : c.insert.new.self ≡ insert c.args.names.now c.args.name.now tt = search rules in
    subst (λ (new : ByName (Unit {0})). AddsWanted c.args.self.now.device c.args.self.now.tables c.args.names.now new (λ other. other ≡ c.args.name.now)) (sym is)
    (adds_one c.args.self.now.device c.args.self.now.tables c.args.names.now c.args.name.now wants)
