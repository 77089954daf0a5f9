use Rattle.std.proofs.Common.{Err, ap, ◌∙◌}
use Rattle.std.proofs.lemmas.Result.{err_from_is_err_and}
use Rattle.bep_model.specs.Tables.{FileName}
use Rattle.bep_folder.proofs.ScanFacts.{found_at, look_failed, scan_made}
use Rattle.bep_folder.proofs.replica.Replica.scan_by_reading.Goals as goal

pub returns-in_err-node-clause-scanned : goal.returns-in_err-node-clause-scanned
returns-in_err-node-clause-scanned g c =
    let error = err_from_is_err_and c.from_residual.result c.from_residual.ensures.1 in
    look_failed c.args.self.now.device c.args.name.now c.args.self.now c.look.new.self c.in_err-node.field-0.0 c.from_residual.result (error.1 ∙ ap Err error.2)
    c.in_err-node.ensures.only (λ is. c.in_err-node.ensures.first (ap Err is)) c.in_err-node.ensures.same

pub returns-clause-scanned : goal.returns-clause-scanned
returns-clause-scanned g c =
    scan_made c.args.name.now c.in_ok-node.node c.args.self.now c.look.new.self c.commit.new.self c.commit.result
    c.in_ok-node.ensures.node c.in_ok-node.ensures.stays.device c.in_ok-node.ensures.same
    c.in_ok-scan.scan (c.in_ok-scan.ensures.found ∙ ap (λ (name : FileName). found_at name c.in_ok-node.node) c.in_ok-copy.ensures) c.commit.ensures.commits
