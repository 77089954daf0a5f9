use Rattle.std.proofs.Common.{◌≡◌, List, ℕ, Option, Result, Ok, Err, OnErr, refl, sym, ap, ◌∙◌, IsSome, subst}
use Rattle.std.specs.Cmp.Lexicographic.{nat_list_cmp_total}
use Rattle.std.specs.FinMap.{get, insert}
use Rattle.std.proofs.lemmas.Map.Lookups.{exact_bytes}
use Rattle.bep_facts.specs.Maps.{get-insert_here}
use Rattle.bep_map.specs.NameMap.{ByName}
use Rattle.bep_record.specs.declared.entry.Entry.{Entry}
use Rattle.bep_index.specs.Change.{given_back}
use Rattle.bep_index.proofs.IndexFacts.{given_back-insert}
use Rattle.bep_index.proofs.all.+put_all.Goals as goal

-- what was put has a value
has_value : {T E : Type 0} (rest : Result T E) (old put new : ByName Entry) (name key : List ℕ) (entry : Entry) → put ≡ insert old key entry → name ≡ key → OnErr rest (new ≡ put) → OnErr rest (IsSome (get new name))
has_value (Ok _) old put new name key entry is same left = tt
has_value (Err _) old put new name key entry is same left =
    subst (λ m. IsSome (get m name)) (sym (left ∙ is))
    (subst (λ k. IsSome (get (insert old k entry) name)) same (subst IsSome (sym (get-insert_here nat_list_cmp_total exact_bytes old name entry)) refl))

pub keep_if_ok-requires : goal.keep_if_ok-requires
keep_if_ok-requires t c =
    has_value c.put_all-rest.result c.args.map.now c.put_one.new.map c.put_all-rest.new.map c.in_ok-put.put.name c.in_ok-copy.field-0.name c.in_ok-copy.field-0 c.in_ok-put.ensures.ok c.in_ok-put.ensures.name c.put_all-rest.ensures.err

-- what had a value before has it again
as_before : {T E : Type 0} (rest kept : Result T E) (old put new last : ByName Entry) (name key : List ℕ) (entry : Entry) (before : Option Entry) → kept ≡ rest → put ≡ insert old key entry → name ≡ key → before ≡ get old key
    → OnErr rest (new ≡ put) → OnErr rest (last ≡ given_back new name before) → OnErr kept (last ≡ old)
as_before (Ok x) kept old put new last name key entry before same is here was left back = subst (λ r. OnErr r (last ≡ old)) (sym same) tt
as_before (Err e) kept old put new last name key entry before same is here was left back =
    subst (λ r. OnErr r (last ≡ old)) (sym same)
    (back ∙ ap (λ m. given_back m name before) (left ∙ is) ∙ ap (λ n. given_back (insert old key entry) n before) here ∙ given_back-insert old key entry before (sym was))

pub returns-clause-err : goal.returns-clause-err
returns-clause-err t c =
    as_before c.put_all-rest.result c.keep_if_ok.result c.args.map.now c.put_one.new.map c.put_all-rest.new.map c.keep_if_ok.new.map c.in_ok-put.put.name c.in_ok-copy.field-0.name c.in_ok-copy.field-0 c.in_ok-put.put.before
    c.keep_if_ok.ensures.same c.in_ok-put.ensures.ok c.in_ok-put.ensures.name c.in_ok-put.ensures.before c.put_all-rest.ensures.err c.keep_if_ok.ensures.err
