use Rattle.std.proofs.Common.{◌≡◌, ◌∙◌, Option, true, ap, subst, arith}
use Rattle.std.proofs.lemmas.Result.{err_from_is_err_and}
use Rattle.bep_record.specs.declared.node.NodeParts.{NodeParts}
use Rattle.bep_machine.specs.Local.{Fails}
use Rattle.bep_machine.specs.Replica.{Replica, own_at}
use Rattle.bep_machine.specs.Pull.{EndingRow}
use Rattle.bep_folder.specs.inner.Ending.{IsIncomplete, PulledRow}
use Rattle.bep_folder.specs.inner.Finish.{IfPulled}
use Rattle.bep_folder.specs.Held.{Held}
use Rattle.bep_folder.specs.Trace.{next_call}
use Rattle.bep_folder.specs.Calls.{CallsInFinish}
use Rattle.bep_folder.proofs.CallFacts.{looked_in_vain}
use Rattle.bep_folder.proofs.FinishFacts.{ends_read, ends_unread, look_makes}
use Rattle.bep_folder.proofs.replica.Replica.end_pull.Goals as goal

pub returns-in_err-node-clause-made : goal.returns-in_err-node-clause-made
returns-in_err-node-clause-made g c =
    let name = c.args.name.now in
    let new = c.read_node.new.self in
    let complete : IfPulled name c.args.self.now.tables (λ pull. ¬ IsIncomplete (own_at c.args.self.now.tables name) pull) =
    λ pull is lacks. absurd (let yes : c.is_incomplete.result ≡ true = (c.is_incomplete.ensures pull is).1 lacks in let no = c.if-is_incomplete.false in cc) in
    let error = err_from_is_err_and c.from_residual.result c.from_residual.ensures.1 in
    rw (error.1, error.2)
    (look_makes (λ t. PulledRow name (λ pull. EndingRow name pull new.trace.failed t) t) c.args.self.now new c.in_err-node.field-0.0 c.in_err-node.ensures.looked
    (λ same fails. ends_unread name c.args.self.now new c.requires.pulled complete same (subst (λ call. Fails call new.trace.failed) (ap next_call c.requires.first) fails)))

pub returns-clause-made : goal.returns-clause-made
returns-clause-made g c =
    let name = c.args.name.now in
    let complete : IfPulled name c.args.self.now.tables (λ pull. ¬ IsIncomplete (own_at c.args.self.now.tables name) pull) =
    λ pull is lacks. absurd (let yes : c.is_incomplete.result ≡ true = (c.is_incomplete.ensures pull is).1 lacks in let no = c.if-is_incomplete.false in cc) in
    let looked = c.in_ok-node.ensures.looked in
    let one : c.read_node.new.self.made ≡ 1 = ap (λ (h : Held). h.made) looked ∙ ap next_call c.requires.first in
    ends_read name c.args.self.now c.read_node.new.self c.end_with.new.self c.end_with.result (ap (λ (h : Held). h.tables) looked)
    (c.end_with.ensures.later 1 (omega (arith, one))) complete c.end_with.ensures.made

pub returns-in_err-node-clause-called : goal.returns-in_err-node-clause-called
returns-in_err-node-clause-called g c =
    let error = err_from_is_err_and c.from_residual.result c.from_residual.ensures.1 in
    rw (error.1, error.2)
    (looked_in_vain (Option NodeParts) c.args.name.now c.args.self.now.tables c.args.self.now c.read_node.new.self c.in_err-node.field-0.0 c.in_err-node.ensures.looked)

pub returns-clause-called : goal.returns-clause-called
returns-clause-called g c =
    subst (λ (tables : Replica). CallsInFinish c.args.name.now tables c.end_with.new.self c.end_with.result) (ap (λ (h : Held). h.tables) c.in_ok-node.ensures.looked) c.end_with.ensures.called
