use Rattle.std.proofs.Common.{◌≡◌, ◌∙◌, None, Err, ⊎_elim, ap, sym, subst, rules}
use Rattle.bep_json.specs.Taking.{EntersLeaf}
use Rattle.bep_scenario.specs.Words.{read_word}
use Rattle.bep_scenario.proofs.words.take_word.Goals as goal

pub returns-in_err-tree-clause-value : goal.returns-in_err-tree-clause-value
returns-in_err-tree-clause-value c = λ d rest stood.
    let fails = c.in_err-tree.ensures.value d rest stood in
    let is : c.from_residual.result ≡ Err c.in_err-tree.field-0.0 = search rules in
    rw is fails

pub returns-in-Some-clause-value : goal.returns-in-Some-clause-value
returns-in-Some-clause-value c = λ d rest stood.
    let entered = c.in_ok-tree.ensures.value d rest stood in
    (c.word_of.ensures ∙ ap read_word (subst (λ leaf. EntersLeaf leaf d) c.in-Some.is entered.0).0, entered.1)

pub returns-in-None-clause-value : goal.returns-in-None-clause-value
unfolding read_word
returns-in-None-clause-value c = λ d rest stood.
    let entered = c.in_ok-tree.ensures.value d rest stood in
    let no_word : read_word d ≡ None = ⊎_elim (λ list. ap read_word list.1) (λ object. ap read_word object.1) (subst (λ leaf. EntersLeaf leaf d) c.in-None.is entered.0) in
    (sym no_word, entered.1)
