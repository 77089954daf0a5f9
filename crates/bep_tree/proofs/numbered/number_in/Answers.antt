use Rattle.std.proofs.Common.{◌≡◌, ◌∙◌, [], ◌∷◌, length, None, MatchOption, Some, sym, ap, subst, arith, rules}
use Rattle.json.specs.Json.{members, value}
use Rattle.json.specs.Reads.{token_of}
use Rattle.json.specs.Token.{Token}
use Rattle.json.proofs.Grammar.{value_is, value-begin_object}
use Rattle.serde_json.specs.Read.{max_depth}
use Rattle.bep_tree.specs.inner.Numbered.{found_among, found_in}
use Rattle.bep_tree.specs.inner.Passed.{after_value}
use Rattle.bep_tree.proofs.NumberedFacts.{not_opening, as_found, found_in_object, found_elsewhere}
use Rattle.bep_tree.proofs.numbered.number_in.Goals as goal

pub returns-in_err-token : goal.returns-in_err-token
returns-in_err-token c =
    let empty : c.args.reader.now ≡ [] = grind arith in
    let none : found_in c.args.name.now (value max_depth c.args.reader.now) ≡ None = ap (λ ts. found_in c.args.name.now (value max_depth ts)) empty ∙ ap (found_in c.args.name.now) (value_is max_depth []) in
    let made : c.from_residual.result ≡ None = search rules in
    rw made none

pub returns-in-BeginObject : goal.returns-in-BeginObject
returns-in-BeginObject c =
    let ts = c.next.new.self in
    let first : c.args.reader.now ≡ Token.begin_object ∷ ts = grind arith in
    let same : found_in c.args.name.now (value max_depth c.args.reader.now) ≡ found_among c.args.name.now None (members (value 126) (length ts) ts) =
    ap (λ all. found_in c.args.name.now (value max_depth all)) first
    ∙ ap (found_in c.args.name.now) (value-begin_object max_depth ts (omega arith))
    ∙ found_in_object c.args.name.now (members (value 126) (length ts) ts) in
    subst (λ o. MatchOption c.number_among.result (o ≡ None) (λ number. o ≡ Some (number, c.number_among.new.reader))) (sym same) c.number_among.ensures

pub returns-in_default : goal.returns-in_default
returns-in_default c =
    let ts = c.next.new.self in
    let t = token_of c.in_ok-token.token in
    let first : c.args.reader.now ≡ t ∷ ts = grind arith in
    let other = not_opening c.in_ok-token.token c.in_default.not-BeginObject in
    let same = ap (λ all. found_in c.args.name.now (value max_depth all)) first ∙ found_elsewhere c.args.name.now max_depth t ts other in
    as_found (after_value max_depth (t ∷ ts)) (found_in c.args.name.now (value max_depth c.args.reader.now)) same c.no_number_in.result c.no_number_in.new.reader c.no_number_in.ensures
