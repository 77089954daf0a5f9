use Rattle.std.proofs.Common.{◌≡◌, IsSome, true, inr, refl, sym, subst}
use Rattle.bep_record.specs.Node.{IsClean}
use Rattle.bep_machine.specs.Replica.{own_at, node_at}
use Rattle.bep_machine.specs.Pull.{IsConflictDue}
use Rattle.bep_folder.specs.inner.Finish.{IfPulled}
use Rattle.bep_folder.proofs.CallFacts.{ends_without as calls_without}
use Rattle.bep_folder.proofs.FinishFacts.{ends_copying, ends_plain, file_there}
use Rattle.bep_folder.proofs.replica.Replica.end_with.Goals as goal

pub end_beside-requires-clause-kept : goal.end_beside-requires-clause-kept
end_beside-requires-clause-kept g c =
    let tables = c.args.self.now.tables in
    let clean : IsClean (node_at tables c.args.name.now) (own_at tables c.args.name.now) =
    subst (λ n. IsClean n (own_at tables c.args.name.now)) (sym c.requires.node) (c.is_scanned.ensures.0 c.if-not-is_scanned.false) in
    subst (λ n. IsSome n) c.requires.node
    (file_there c.args.name.now tables c.requires.pulled clean (λ pull is. (c.needs_copy.ensures pull is).0 c.if-needs_copy.true))

pub returns-then-needs_copy-clause-made : goal.returns-then-needs_copy-clause-made
returns-then-needs_copy-clause-made g c =
    let tables = c.args.self.now.tables in
    let clean : IsClean (node_at tables c.args.name.now) (own_at tables c.args.name.now) =
    subst (λ n. IsClean n (own_at tables c.args.name.now)) (sym c.requires.node) (c.is_scanned.ensures.0 c.if-not-is_scanned.false) in
    ends_copying c.args.name.now c.args.self.now c.end_beside.new.self c.end_beside.result clean
    (λ pull is. (c.needs_copy.ensures pull is).0 c.if-needs_copy.true) c.end_beside.ensures.made

pub returns-clause-made : goal.returns-clause-made
returns-clause-made g c =
    let tables = c.args.self.now.tables in
    let clean : IsClean (node_at tables c.args.name.now) (own_at tables c.args.name.now) =
    subst (λ n. IsClean n (own_at tables c.args.name.now)) (sym c.requires.node) (c.is_scanned.ensures.0 c.if-not-is_scanned.false) in
    let apart : IfPulled c.args.name.now tables (λ pull. ¬ IsConflictDue (own_at tables c.args.name.now) pull.target) =
    λ pull is due. absurd (let yes : c.needs_copy.result ≡ true = (c.needs_copy.ensures pull is).1 due in let no = c.if-needs_copy.false in cc) in
    ends_plain c.args.name.now c.args.self.now c.adopt.new.self c.adopt.result c.requires.second clean apart c.adopt.ensures.made

pub returns-clause-called : goal.returns-clause-called
returns-clause-called g c =
    let tables = c.args.self.now.tables in
    let name = c.args.name.now in
    let apart : IfPulled name tables (λ pull. ¬ IsConflictDue (own_at tables name) pull.target) =
    λ pull is due. absurd (let yes : c.needs_copy.result ≡ true = (c.needs_copy.ensures pull is).1 due in let no = c.if-needs_copy.false in cc) in
    calls_without name tables c.args.self.now c.adopt.new.self c.adopt.result refl c.requires.pulled 1 c.requires.second (λ pull is. inr (apart pull is, refl)) c.adopt.ensures.changed
    c.requires.uncopied c.adopt.ensures.copied c.adopt.ensures.called
