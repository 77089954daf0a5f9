use Rattle.std.proofs.Common.{◌≡◌, ◌++◌, Vec, ℕ, Global, ap, ◌∙◌}
use Rattle.std.specs.String.{string_bytes}
use Rattle.json.specs.Lex.{tokens}
use Rattle.json.specs.Print.{print}
use Rattle.bep_json.proofs.AddedText.{text_is}
use Rattle.bep_json.proofs.added.text_of.Goals as goal

pub returns : goal.returns
returns c =
    let text : string_bytes c.in-Ok.text ≡ print c.args.out.tokens =
    ap (λ (v : Vec ℕ Global). v.items) c.in-Ok.ensures.ok ∙ c.into_inner-bytes.ensures.items ∙ ap (λ l. l ++ print c.args.out.tokens) c.requires in
    text_is c.args.out (string_bytes c.in-Ok.text) text (ap tokens text ∙ c.into_inner-bytes.ensures.reads_back)
