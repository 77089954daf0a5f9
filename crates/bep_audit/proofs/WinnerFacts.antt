-- A row holds its name's winner, or doesn't.
use Rattle.std.proofs.Common.{◌≡◌, ◌↔◌, sym, subst}
use Rattle.bep_record.specs.declared.entry.Entry.{Entry}
use Rattle.bep_model.specs.declared.row.Row.{Row}
use Rattle.bep_model.specs.Tables.{Tables}
use Rattle.bep_model.specs.Winner.{IsWinner}
use Rattle.bep_model.specs.Laws.{WinnerIsUnique}
use Rattle.bep_choice.specs.Choice.{Candidate}

-- a row holds the winner exactly where it holds the one that wins
pub row_exactly : WinnerIsUnique → (t : Tables) (row : Row) (entry : Entry) (one : Candidate) → entry ≡ row.entry → IsWinner t row.folder entry.name one → (one ≡ (row.device, row.entry)) ↔ IsWinner t row.folder row.entry.name (row.device, row.entry)
row_exactly unique t row entry one is wins =
    let here : IsWinner t row.folder row.entry.name one = subst (λ (e : Entry). IsWinner t row.folder e.name one) is wins in (
      λ same. subst (IsWinner t row.folder row.entry.name) same here,
      λ row_wins. unique t row.folder row.entry.name one (row.device, row.entry) here row_wins,
    )

-- and doesn't where nothing wins
pub row_unwon : (t : Tables) (row : Row) (entry : Entry) → entry ≡ row.entry → ((one : Candidate) → ¬ IsWinner t row.folder entry.name one) → ¬ IsWinner t row.folder row.entry.name (row.device, row.entry)
row_unwon t row entry is none wins = none (row.device, row.entry) (subst (λ (e : Entry). IsWinner t row.folder e.name (row.device, row.entry)) (sym is) wins)
