use Rattle.std.proofs.Common.{◌<◌, ◌∙◌, length, Option, inl, refl, ap, sym, subst}
use Rattle.std.proofs.lemmas.Result.{err_from_is_err_and}
use Rattle.std.specs.Option.{option_copied}
use Rattle.bep_record.specs.Name.{max_name_len}
use Rattle.bep_record.specs.declared.node.NodeParts.{NodeParts}
use Rattle.bep_machine.specs.Replica.{node_at}
use Rattle.bep_machine.specs.Pull.{IsCopy}
use Rattle.bep_folder.specs.Held.{Held}
use Rattle.bep_folder.specs.Trace.{next_call}
use Rattle.bep_folder.proofs.CallFacts.{ends_copying as calls_copying, ends_without as calls_without, not_kept, not_named}
use Rattle.bep_folder.proofs.FinishFacts.{Beside, ends_unkept, ends_with_copy, ends_without, kept_there, nothing_there, own_there}
use Rattle.bep_folder.proofs.replica.Replica.end_beside.Goals as goal

pub name_of_copy-requires : goal.name_of_copy-requires
name_of_copy-requires g c = own_there c.args.name.now c.args.self.now.tables c.requires.pulled c.requires.due

pub returns-in_err-kept-clause-made : goal.returns-in_err-kept-clause-made
returns-in_err-kept-clause-made g c =
    let error = err_from_is_err_and c.from_residual-in_err-kept.result c.from_residual-in_err-kept.ensures.1 in
    rw (error.1, error.2)
    (ends_unkept c.args.name.now c.in_ok-copy.copy c.args.self.now c.is_kept.new.self (option_copied c.args.node) c.in_err-kept.field-0.0 c.requires.pulled c.in_ok-copy.ensures.ok
    (λ over. (let bad = c.in_ok-copy.ensures.bad.1 (subst (λ n. max_name_len < length n) c.in_ok-copy.ensures.ok over) in absurd (cc))) c.requires.node c.requires.second c.requires.untroubled c.in_err-kept.ensures)

pub returns-then-kept-clause-made : goal.returns-then-kept-clause-made
returns-then-kept-clause-made g c =
    let found = kept_there c.in_ok-copy.copy (option_copied c.args.node) c.args.self.now c.is_kept.new.self c.in_ok-kept.kept c.if-kept.true c.in_ok-kept.ensures in
    let beside : Beside c.args.name.now c.in_ok-copy.copy c.args.self.now c.is_kept.new.self c.adopt.new.self = record {
      named = c.in_ok-copy.ensures.ok;
      short = λ over. (let bad = c.in_ok-copy.ensures.bad.1 (subst (λ n. max_name_len < length n) c.in_ok-copy.ensures.ok over) in absurd (cc));
      same = ap (λ (h : Held). h.tables) found.0;
      two = ap (λ (h : Held). h.made) found.0 ∙ ap next_call c.requires.second;
      later = c.adopt.ensures.later;
    } in
    ends_without c.args.name.now c.in_ok-copy.copy c.args.self.now c.is_kept.new.self c.adopt.new.self beside c.adopt.result found.1
    (subst (λ (n : Option NodeParts). IsCopy (node_at c.args.self.now.tables c.in_ok-copy.copy) n) (sym c.requires.node) found.2) c.adopt.ensures.made

pub returns-clause-made : goal.returns-clause-made
returns-clause-made g c =
    let found = nothing_there c.in_ok-copy.copy (option_copied c.args.node) c.args.self.now c.is_kept.new.self c.in_ok-kept.kept c.if-kept.false c.in_ok-kept.ensures in
    let beside : Beside c.args.name.now c.in_ok-copy.copy c.args.self.now c.is_kept.new.self c.adopt-2.new.self = record {
      named = c.in_ok-copy.ensures.ok;
      short = λ over. (let bad = c.in_ok-copy.ensures.bad.1 (subst (λ n. max_name_len < length n) c.in_ok-copy.ensures.ok over) in absurd (cc));
      same = ap (λ (h : Held). h.tables) found.0;
      two = ap (λ (h : Held). h.made) found.0 ∙ ap next_call c.requires.second;
      later = c.adopt-2.ensures.later;
    } in
    ends_with_copy c.args.name.now c.in_ok-copy.copy c.args.self.now c.is_kept.new.self c.adopt-2.new.self beside c.adopt-2.result
    found.1 c.adopt-2.ensures.made

pub returns-in_err-copy-clause-called : goal.returns-in_err-copy-clause-called
returns-in_err-copy-clause-called g c =
    let error = err_from_is_err_and c.from_residual.result c.from_residual.ensures.1 in
    rw (error.1, error.2)
    (not_named c.args.name.now c.args.self.now.tables c.args.self.now c.in_err-copy.field-0.0 c.requires.second c.in_err-copy.ensures.only)

pub returns-in_err-kept-clause-called : goal.returns-in_err-kept-clause-called
returns-in_err-kept-clause-called g c =
    let error = err_from_is_err_and c.from_residual-in_err-kept.result c.from_residual-in_err-kept.ensures.1 in
    rw (error.1, error.2)
    (not_kept c.args.name.now c.in_ok-copy.copy (option_copied c.args.node) c.args.self.now.tables c.args.self.now c.is_kept.new.self c.in_err-kept.field-0.0 c.requires.second c.in_err-kept.ensures)

pub returns-then-kept-clause-called : goal.returns-then-kept-clause-called
returns-then-kept-clause-called g c =
    let found = kept_there c.in_ok-copy.copy (option_copied c.args.node) c.args.self.now c.is_kept.new.self c.in_ok-kept.kept c.if-kept.true c.in_ok-kept.ensures in
    calls_without c.args.name.now c.args.self.now.tables c.is_kept.new.self c.adopt.new.self c.adopt.result (ap (λ (h : Held). h.tables) found.0) c.requires.pulled
    2 (ap (λ (h : Held). h.made) found.0 ∙ ap next_call c.requires.second) (λ pull is. inl (c.requires.due pull is, refl)) c.adopt.ensures.changed
    (ap (λ (h : Held). h.trace.copied) found.0 ∙ c.requires.uncopied) c.adopt.ensures.copied c.adopt.ensures.called

pub returns-clause-called : goal.returns-clause-called
returns-clause-called g c =
    let found = nothing_there c.in_ok-copy.copy (option_copied c.args.node) c.args.self.now c.is_kept.new.self c.in_ok-kept.kept c.if-kept.false c.in_ok-kept.ensures in
    calls_copying c.args.name.now c.args.self.now.tables c.is_kept.new.self c.adopt-2.new.self c.adopt-2.result (ap (λ (h : Held). h.tables) found.0) c.requires.pulled
    2 (ap (λ (h : Held). h.made) found.0 ∙ ap next_call c.requires.second) (λ pull is. inl (c.requires.due pull is, refl)) c.adopt-2.ensures.changed
    c.in_ok-copy.copy c.adopt-2.ensures.copied c.adopt-2.ensures.called
