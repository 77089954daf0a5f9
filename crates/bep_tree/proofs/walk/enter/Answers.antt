use Rattle.std.proofs.Common.{◌≡◌, ◌∷◌, [], subst, arith}
use Rattle.json.specs.Reads.{token_of}
use Rattle.bep_tree.specs.Walk.{Stands}
use Rattle.bep_tree.proofs.Walking.{nothing_begins}
use Rattle.bep_tree.proofs.walk.enter.Goals as goal

pub returns-in-Some-clause-value : goal.returns-in-Some-clause-value
returns-in-Some-clause-value c = λ d rest stood.
    let first : c.args.reader.now ≡ token_of c.in-Some.token ∷ c.next.new.self = grind arith in
    c.begun_with.ensures.value d c.next.new.self rest (subst (λ ts. Stands c.args.depth ts d rest) first stood)

pub returns-in-None-clause-value : goal.returns-in-None-clause-value
returns-in-None-clause-value c = λ d rest stood.
    let none : c.args.reader.now ≡ [] = grind arith in
    absurd (nothing_begins c.args.depth d rest (subst (λ ts. Stands c.args.depth ts d rest) none stood))
