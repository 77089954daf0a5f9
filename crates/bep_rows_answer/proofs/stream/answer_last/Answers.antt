use Rattle.std.proofs.Common.{◌∙◌, ◌∷◌, [], ◌++◌, List, ℕ, true, sym, ap, subst, inl}
use Rattle.std.proofs.KnownBytes.{Appends-trans}
use Rattle.std.proofs.lemmas.List.{append_assoc}
use Rattle.std.proofs.lemmas.Result.{IfErr-weaker, IfOk-weaker}
use Rattle.bep_rows_answer.specs.Stream.{IsWholeAnswer}
use Rattle.bep_rows_answer.proofs.SoFar.{all_is_more}
use Rattle.bep_rows_answer.proofs.Streamed.{grown_more, last_refused}
use Rattle.bep_rows_answer.proofs.stream.answer_last.Goals as goal

pub returns-then-not-branch-clause-ok : goal.returns-then-not-branch-clause-ok
returns-then-not-branch-clause-ok g c =
    last_refused g.A.Auditor.tells g.A.Auditor.ends g.A.Auditor.knows c.args.line.now c.args.number c.args.state.now c.args.auditor.now _ _ (rw c.if-not-branch.true at c.in_ok-answer_line.ensures.ok)

pub returns-clause-ok : goal.returns-clause-ok
returns-clause-ok g c =
    let line = c.args.line.now in
    let next = rw c.if-not-branch.false at c.in_ok-answer_line.ensures.ok in
    let over = sym c.is_over.ensures ∙ c.if-is_over.false in
    IfOk-weaker c.end-2.result _ _
    (λ outcome ended. record {
      more = next.more ++ ended.more;
      written = Appends-trans _ _ _ next.more ended.more next.written ended.written;
      says = λ asked lines text given no_end numbered.
          inl
          (subst (λ (all : List (List ℕ)). IsWholeAnswer (g.A.Auditor.tells asked) (g.A.Auditor.ends asked) all outcome (text ++ (next.more ++ ended.more))) (sym (all_is_more g.A.Auditor.tells g.A.Auditor.knows asked c.args.auditor.now lines line text c.args.state.now given over))
          (subst (λ (all : List ℕ). IsWholeAnswer (g.A.Auditor.tells asked) (g.A.Auditor.ends asked) (lines ++ line ∷ []) outcome all) (append_assoc text next.more ended.more)
          (ended.says asked (lines ++ line ∷ []) (text ++ next.more) (next.taken asked lines text given))));
    })
    c.end-2.ensures.ok

pub returns-clause-err : goal.returns-clause-err
returns-clause-err g c =
    let next = rw c.if-not-branch.false at c.in_ok-answer_line.ensures.ok in
    IfErr-weaker c.end-2.result _ _ (λ error grown. grown_more _ _ _ next.more next.written grown) c.end-2.ensures.err
