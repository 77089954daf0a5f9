use Rattle.std.proofs.Common.{◌≡◌, ◌∙◌, true, Some, sym, ap, subst, refl}
use Rattle.bep_machine.specs.Exchange.{with_block}
use Rattle.bep_machine.specs.Replica.{Replica, pull_at}
use Rattle.bep_machine.specs.declared.message.Request.{Request}
use Rattle.bep_folder.specs.Held.{Held}
use Rattle.bep_folder.specs.Received.{AsksFor}
use Rattle.bep_folder.proofs.AskedFacts.{answered_as}
use Rattle.bep_folder.proofs.HeldFacts.{IsHeld-added}
use Rattle.bep_folder.proofs.replica.Replica.add_block.Goals as goal

pub returns-then-not-is_block-clause-hash_bad : goal.returns-then-not-is_block-clause-hash_bad
returns-then-not-is_block-clause-hash_bad g c =
    let pulled : pull_at c.args.self.now.tables c.args.name.now ≡ Some c.in-Some.pull.now =
    ap (λ (h : Held). pull_at h.tables c.args.name.now) (sym c.begin.ensures) ∙ ap (λ (h : Held). pull_at h.tables c.args.name.now) (sym c.self.view_is) ∙ sym c.in-Some.ensures in (
      (λ bad. (c.in-Some.pull.now, pulled, λ at. absurd (let yes : c.is_block.result ≡ true = c.is_block.ensures.same.1 at in let no = c.if-not-is_block.true in cc))),
      (λ lacks. refl),
    )

pub invariant_of-self : goal.invariant_of-self
invariant_of-self g c =
    IsHeld-added c.add_in.result c.self.inside.device c.self.inside.others c.self.inside.views c.self.inside.pulls c.add_in.new.pulls c.args.name.now c.args.place c.args.bytes.now
    c.add_in.ensures.ok c.add_in.ensures.err c.self.invariant

pub invariant_of-self-2 : goal.invariant_of-self-2
invariant_of-self-2 g c =
    IsHeld-added c.add_in.result c.self.inside.device c.self.inside.others c.self.inside.views c.self.inside.pulls c.add_in.new.pulls c.args.name.now c.args.place c.args.bytes.now
    c.add_in.ensures.ok c.add_in.ensures.err c.self.invariant

pub returns-clause-answered : goal.returns-clause-answered
returns-clause-answered g c =
    let inside : Replica = record {
      kind = c.self.inside.kind;
      others = c.self.inside.others;
      index = c.self.inside.index;
      views = c.self.inside.views;
      pulls = c.self.inside.pulls;
      store = c.self.inside.store.contents;
    } in
    let same : inside ≡ c.args.self.now.tables = ap (λ (h : Held). h.tables) c.self.view_is ∙ ap (λ (h : Held). h.tables) c.begin.ensures in
    subst (λ (t : Replica). (request : Request) → AsksFor c.args.name.now c.args.place t request → record inside { pulls = c.add_in.new.pulls } ≡ with_block request c.args.bytes.now (pull_at t c.args.name.now) t) same
    (answered_as inside c.add_in.new.pulls c.args.name.now c.args.place c.args.bytes.now c.in-Some.pull.now c.is_block.ensures.a_pull.formed (sym c.in-Some.ensures) c.in_ok-add_in.ensures.ok)
