-- Nothing fails, and nothing keeps a settled cut from being firm, exactly where it is firm.
use Rattle.std.proofs.Common.{◌≡◌, ◌↔◌, List, []}
use Rattle.bep_model.specs.declared.row.Row.{Row}
use Rattle.bep_model.specs.Tables.{Tables}
use Rattle.bep_model.specs.Firm.{IsFirm}
use Rattle.bep_model.specs.Settled.{IsSettled}
use Rattle.bep_model.specs.Laws.{FirmIsFaultless}
use Rattle.bep_audit.specs.Loose.{Loosening}
use Rattle.bep_audit.specs.Walk.{Failure}
use Rattle.bep_explain.specs.Loose.{IsTight}

pub firm_exactly : FirmIsFaultless → (t : Tables) (rows : List Row) (found : List Failure) (loose : List Loosening) → ((found ≡ []) ↔ IsSettled t rows) → ((loose ≡ []) ↔ IsTight t rows) → ((found ≡ []) × (loose ≡ [])) ↔ IsFirm t rows
firm_exactly faultless t rows found loose settled tight = (
  λ none. (faultless t rows).1 (settled.0 none.0, λ reason place. tight.0 none.1 (record { reason = reason; place = place })),
  λ firm. let both = (faultless t rows).0 firm in (settled.1 both.0, tight.1 (λ one. both.1 one.reason one.place)),
)
