use Rattle.std.proofs.Common.{◌≡◌, ◌∙◌, List, take, subst, sym, ap, arith}
use Rattle.std.specs.FinMap.{empty}
use Rattle.std.proofs.lemmas.List.{take_all}
use Rattle.bep_facts.specs.Places.{done_with}
use Rattle.bep_model.specs.Tables.{Device}
use Rattle.bep_folder.specs.Held.{Held}
use Rattle.bep_folder.specs.inner.Wanted.{AddsWanted}
use Rattle.bep_folder.proofs.WantedFacts.{IsViewedAmong, adds_next_view, exactly_wanted}
use Rattle.bep_folder.proofs.replica.Replica.wanted_names.Goals as goal

pub loop-other-preserved : goal.loop-other-preserved
loop-other-preserved g c =
    let others = c.as_slice-others.result.now in
    let index = c.loop-other.other-index in
    subst (λ (done : List Device). AddsWanted c.args.self.now.device c.args.self.now.tables empty c.add_viewed.new.names (IsViewedAmong c.args.self.now.tables.views done))
    (sym (done_with others index c.other-item.result c.loop-other-test.true c.other-item.is))
    (adds_next_view c.args.self.now.device c.args.self.now.tables empty c.loop-other.names c.add_viewed.new.names c.args.self.now.tables.views (take index others) c.other-item.result c.loop-other.invariant c.in_ok-add_viewed.ensures)

pub returns : goal.returns
returns g c =
    let others = c.as_slice-others.result.now in
    let index = c.loop-other.other-index in
    let all : take index others ≡ c.args.self.now.tables.others =
    take_all index others (omega arith) ∙ c.as_slice-others.ensures ∙ ap (λ (h : Held). h.tables.others) c.self.view_is in
    exactly_wanted c.args.self.now.device c.args.self.now.tables c.loop-other.names (take index others) all c.loop-other.invariant
