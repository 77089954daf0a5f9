use Rattle.std.proofs.Common.{◌≡◌, true, inl, inr, refl, sym, subst, ◌∙◌}
use Rattle.std.specs.Option.{option_copied}
use Rattle.bep_machine.specs.Pull.{timed}
use Rattle.bep_folder.proofs.CallFacts.{last_failed, one_made}
use Rattle.bep_folder.proofs.StoredFacts.{stored-held}
use Rattle.bep_folder.proofs.pull.writes.take_time.Goals as goal

pub returns-in_default-clause-stores : goal.returns-in_default-clause-stores
returns-in_default-clause-stores g c =
    let same : timed (option_copied c.args.node) c.args.target.now ≡ option_copied c.args.node =
    subst (λ n. timed (option_copied n) c.args.target.now ≡ option_copied n) (sym c.in-Some.is) (c.if-not-has_time.ensures.0 refl) in
    (sym (stored-held c.args.store.now.contents c.args.name.now (timed (option_copied c.args.node) c.args.target.now) (c.requires.node ∙ sym same)), refl, refl)

pub returns-in_default-2-clause-stores : goal.returns-in_default-2-clause-stores
returns-in_default-2-clause-stores g c =
    let same : timed (option_copied c.args.node) c.args.target.now ≡ option_copied c.args.node =
    subst (λ n. timed (option_copied n) c.args.target.now ≡ option_copied n) (sym c.in_default.is) refl in
    (sym (stored-held c.args.store.now.contents c.args.name.now (timed (option_copied c.args.node) c.args.target.now) (c.requires.node ∙ sym same)), refl, refl)

pub returns-in_default-clause-called : goal.returns-in_default-clause-called
returns-in_default-clause-called g c =
    let same : timed (option_copied c.args.node) c.args.target.now ≡ option_copied c.args.node =
    subst (λ n. timed (option_copied n) c.args.target.now ≡ option_copied n) (sym c.in-Some.is) (c.if-not-has_time.ensures.0 refl) in
    inr (λ apart. apart same, refl)

pub returns-in_default-2-clause-called : goal.returns-in_default-2-clause-called
returns-in_default-2-clause-called g c =
    let same : timed (option_copied c.args.node) c.args.target.now ≡ option_copied c.args.node =
    subst (λ n. timed (option_copied n) c.args.target.now ≡ option_copied n) (sym c.in_default.is) refl in
    inr (λ apart. apart same, refl)

pub returns-in-Some-clause-called : goal.returns-in-Some-clause-called
returns-in-Some-clause-called g c =
    inl (
      (λ same. absurd (let yes : c.has_time.result ≡ true = c.has_time.ensures.1 (subst (λ n. timed (option_copied n) c.args.target.now ≡ option_copied n) c.in-Some.is same) in let no = c.if-not-has_time.true in cc)),
      one_made c.args.store.now c.set_time.new.self c.set_time.result c.set_time.ensures.counted,
    )

pub returns-in-Some-clause-last : goal.returns-in-Some-clause-last
returns-in-Some-clause-last g c = last_failed c.args.store.now c.set_time.new.self c.set_time.result c.set_time.ensures.counted
