use Rattle.std.proofs.Common.{sym, ◌∙◌}
use Rattle.bep_explain.proofs.LinesFacts.{firm_line_written}
use Rattle.bep_explain.proofs.text.firm_explanation.Goals as goal

pub returns-then-is_firm : goal.returns-then-is_firm
returns-then-is_firm c = firm_line_written (λ text. text.items) _ _ c.firm_line.result (sym c.is_firm.ensures ∙ c.if-is_firm.true) c.firm_line.ensures
