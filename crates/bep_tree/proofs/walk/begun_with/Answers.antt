use Rattle.std.proofs.Common.{◌≡◌, ◌∙◌, ◌∷◌, ℕ, List, ap, subst, rules}
use Rattle.json.specs.Json as json
use Rattle.json.specs.Value.{value_view}
use Rattle.json.specs.declared.value.Value.{String, Number, Bool, Null, the_lemmas}
use Rattle.json.specs.Token.{Token as SpecToken}
use Rattle.json.specs.Reads.{token_of}
use Rattle.json.specs.declared.token.Token.{Token}
use Rattle.serde_json.specs.Data.{Data}
use Rattle.bep_tree.specs.View.{data_of}
use Rattle.bep_tree.specs.Walk.{Stands}
use Rattle.bep_tree.proofs.Walking.{Meets, meets}
use Rattle.bep_tree.proofs.walk.begun_with.Goals as goal

met : (t u : Token) (depth : ℕ) (d : Data) (next rest : List SpecToken) → t ≡ u → Stands depth (token_of t ∷ next) d rest → Meets (token_of u) depth d next rest
met t u depth d next rest is stood = subst (λ v. Meets (token_of v) depth d next rest) is (meets (token_of t) depth next d rest stood)

pub returns-in-String-clause-value : goal.returns-in-String-clause-value
returns-in-String-clause-value c = λ d next rest stood.
    let seen : value_view (String c.in-String.text) ≡ json.string c.in-String.text.now = search (rules, the_lemmas) in
    let leaf = met _ _ c.args.depth d next rest c.in-String.is stood in
    (ap data_of seen ∙ leaf.0, leaf.1, leaf.2)

pub returns-in-Number-clause-value : goal.returns-in-Number-clause-value
returns-in-Number-clause-value c = λ d next rest stood.
    let seen : value_view (Number c.in-Number.text) ≡ json.number c.in-Number.text.now = search (rules, the_lemmas) in
    let leaf = met _ _ c.args.depth d next rest c.in-Number.is stood in
    (ap data_of seen ∙ leaf.0, leaf.1, leaf.2)

pub returns-in-Bool-clause-value : goal.returns-in-Bool-clause-value
returns-in-Bool-clause-value c = λ d next rest stood.
    let seen : value_view (Bool c.in-Bool.flag) ≡ json.boolean c.in-Bool.flag = search (rules, the_lemmas) in
    let leaf = met _ _ c.args.depth d next rest c.in-Bool.is stood in
    (ap data_of seen ∙ leaf.0, leaf.1, leaf.2)

pub returns-in-Null-clause-value : goal.returns-in-Null-clause-value
returns-in-Null-clause-value c = λ d next rest stood.
    let seen : value_view (Null) ≡ json.null = search (rules, the_lemmas) in
    let leaf = met _ _ c.args.depth d next rest c.in-Null.is stood in
    (ap data_of seen ∙ leaf.0, leaf.1, leaf.2)

pub returns-in-EndObject-clause-value : goal.returns-in-EndObject-clause-value
returns-in-EndObject-clause-value c = λ d next rest stood. met _ _ c.args.depth d next rest c.in-EndObject.is stood

pub returns-in-EndArray-clause-value : goal.returns-in-EndArray-clause-value
returns-in-EndArray-clause-value c = λ d next rest stood. met _ _ c.args.depth d next rest c.in-EndArray.is stood

pub returns-in-Key-clause-value : goal.returns-in-Key-clause-value
returns-in-Key-clause-value c = λ d next rest stood. met _ _ c.args.depth d next rest c.in-Key.is stood

pub returns-in-Bad-clause-value : goal.returns-in-Bad-clause-value
returns-in-Bad-clause-value c = λ d next rest stood. met _ _ c.args.depth d next rest c.in-Bad.is stood

pub returns-in_ok-inside-in-BeginArray-clause-value : goal.returns-in_ok-inside-in-BeginArray-clause-value
returns-in_ok-inside-in-BeginArray-clause-value c = λ d next rest stood.
    subst (λ n. Meets SpecToken.begin_array n d next rest) c.in_ok-inside-in-BeginArray.ensures (met _ _ c.args.depth d next rest c.in-BeginArray.is stood)

pub returns-in_err-inside-in-BeginArray-clause-value : goal.returns-in_err-inside-in-BeginArray-clause-value
returns-in_err-inside-in-BeginArray-clause-value c = λ d next rest stood.
    absurd (subst (λ n. Meets SpecToken.begin_array n d next rest) c.in_err-inside-in-BeginArray.ensures.1 (met _ _ c.args.depth d next rest c.in-BeginArray.is stood))

pub returns-in_ok-inside-in-BeginObject-clause-value : goal.returns-in_ok-inside-in-BeginObject-clause-value
returns-in_ok-inside-in-BeginObject-clause-value c = λ d next rest stood.
    subst (λ n. Meets SpecToken.begin_object n d next rest) c.in_ok-inside-in-BeginObject.ensures (met _ _ c.args.depth d next rest c.in-BeginObject.is stood)

pub returns-in_err-inside-in-BeginObject-clause-value : goal.returns-in_err-inside-in-BeginObject-clause-value
returns-in_err-inside-in-BeginObject-clause-value c = λ d next rest stood.
    absurd (subst (λ n. Meets SpecToken.begin_object n d next rest) c.in_err-inside-in-BeginObject.ensures.1 (met _ _ c.args.depth d next rest c.in-BeginObject.is stood))
