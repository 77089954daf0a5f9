use Rattle.std.proofs.Common.{◌++◌, Vec, ℕ, Global, ap, ◌∙◌}
use Rattle.bep_lines.specs.Lines.{newline}
use Rattle.bep_explain.proofs.as_json.line_of.Goals as goal

pub returns : goal.returns
returns c = λ d start none adds.
    let is = c.text_of-told.ensures d start none adds in record {
      json = _;
      in_order = is.in_order;
      reads_back = is.reads;
      line = c.in_ok-push.ensures.items ∙ ap (λ (v : Vec ℕ Global). v.items ++ newline) c.into_bytes-text.ensures.value;
    }
