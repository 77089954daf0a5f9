use Rattle.std.proofs.Common.{rules, ◌∙◌}
use Rattle.bep_peer.proofs.OwnFacts.{all_are_left, next_is_left, one_is_own, none_is_left}
use Rattle.bep_peer.proofs.peer.are_own.Goals as goal

pub loop-folder-init : goal.loop-folder-init
loop-folder-init g c =
    all_are_left c.args.number c.args.folders.now c.into_iter-folder-iterator.result (c.into_iter-folder-iterator.ensures.into_iter_gives ∙ c.iter-folder-items.ensures)

pub loop-folder-preserved : goal.loop-folder-preserved
loop-folder-preserved g c =
    next_is_left c.args.number c.args.folders.now c.loop-folder.folder-iterator c.next.new.self (c.in-Some.folder.now, c.in-Some.replica.now)
    c.in-Some.ensures.steps (c.is_own.ensures.0 (search rules)) c.loop-folder.invariant

pub returns-then-not-is_own : goal.returns-then-not-is_own
returns-then-not-is_own g c = (
  λ told. absurd (search rules),
  λ all. absurd (let told = c.is_own.ensures.1 (one_is_own c.args.number c.args.folders.now c.loop-folder.folder-iterator c.next.new.self (c.in-Some.folder.now, c.in-Some.replica.now) c.in-Some.ensures.steps c.loop-folder.invariant all) in search rules),
)

pub returns : goal.returns
returns g c = (
  λ told. none_is_left c.args.number c.args.folders.now c.loop-folder.folder-iterator c.in-None.ensures.steps.0 c.loop-folder.invariant,
  λ all. search rules,
)
