use Rattle.std.proofs.Common.{rules, ◌≡◌, ◌+◌, [], List, sym, subst, take, arith}
use Rattle.std.proofs.lemmas.List.{take_all}
use Rattle.std.specs.FinMap.{insert}
use Rattle.bep_facts.specs.Places.{done_with}
use Rattle.bep_model.specs.Tables.{FileName}
use Rattle.bep_folder.proofs.NamesFacts.{AreNames, Names, name_more, no_names}
use Rattle.bep_folder.proofs.reading.names.set_of.Goals as goal

pub loop-name-init : goal.loop-name-init
loop-name-init c = subst (λ (names : Names). AreNames [] names) (sym c.new-names.ensures) no_names

pub loop-name-preserved : goal.loop-name-preserved
loop-name-preserved c =
    let list = c.args.list.now in
    let index = c.loop-name.name-index in
    let one = c.name-item.result in
    let names = c.loop-name.names in
    let more : c.insert.new.self ≡ insert names one tt = search rules in
    subst (λ (now : Names). AreNames (take (index + 1) list) now) (sym more)
    (subst (λ (done : List FileName). AreNames done (insert names one tt)) (sym (done_with list index one c.loop-name-test.true c.name-item.is))
    (name_more (take index list) names one c.loop-name.invariant))

pub returns : goal.returns
returns c = subst (λ (done : List FileName). AreNames done c.loop-name.names) (take_all c.loop-name.name-index c.args.list.now (omega arith)) c.loop-name.invariant
