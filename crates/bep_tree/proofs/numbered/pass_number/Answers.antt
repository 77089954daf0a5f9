use Rattle.std.proofs.Common.{◌≡◌, ◌∙◌, [], ◌∷◌, None, Some, option_map, sym, ap, arith, rules}
use Rattle.json.specs.Json.{value}
use Rattle.json.specs.Reads.{token_of}
use Rattle.json.proofs.Grammar.{value_is}
use Rattle.bep_tree.specs.inner.Numbered.{whole_begun, numbered}
use Rattle.bep_tree.proofs.NumberedFacts.{numbered_as_begun}
use Rattle.bep_tree.proofs.numbered.pass_number.Goals as goal

pub returns-in_err-token-clause-value : goal.returns-in_err-token-clause-value
returns-in_err-token-clause-value c =
    let empty : c.args.reader.now ≡ [] = grind arith in
    let none : numbered (value c.args.depth c.args.reader.now) ≡ None = ap (λ ts. numbered (value c.args.depth ts)) empty ∙ ap numbered (value_is c.args.depth []) in
    let made : c.from_residual.result ≡ None = search rules in
    rw made none

pub returns-then-pass_begun-clause-value : goal.returns-then-pass_begun-clause-value
returns-then-pass_begun-clause-value c =
    let t = token_of c.in_ok-token.token in
    let first : c.args.reader.now ≡ t ∷ c.next.new.self = grind arith in
    ap (λ ts. numbered (value c.args.depth ts)) first
    ∙ numbered_as_begun c.args.depth t c.next.new.self
    ∙ ap (option_map (λ rest. (whole_begun t, rest))) c.if-pass_begun.ensures.passed
    ∙ ap (λ x. Some (x, c.pass_begun.new.reader)) (sym c.whole_begun-number.ensures)

pub returns-else-pass_begun-clause-value : goal.returns-else-pass_begun-clause-value
returns-else-pass_begun-clause-value c =
    let t = token_of c.in_ok-token.token in
    let first : c.args.reader.now ≡ t ∷ c.next.new.self = grind arith in
    ap (λ ts. numbered (value c.args.depth ts)) first
    ∙ numbered_as_begun c.args.depth t c.next.new.self
    ∙ ap (option_map (λ rest. (whole_begun t, rest))) c.if-pass_begun.ensures.passed
