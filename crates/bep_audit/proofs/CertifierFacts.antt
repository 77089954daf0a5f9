-- What follows of a list of winners, and of the first name without winner, for what is settled.
use Rattle.std.proofs.Common.{List, subst}
use Rattle.bep_model.specs.declared.row.Row.{Row}
use Rattle.bep_model.specs.Laws.{SettledIsListOfWinners, ListOfWinnersIsUnique, WinnersLeaveNoneOut}
use Rattle.bep_model.specs.Settled.{IsListOfWinners, IsSettled}
use Rattle.bep_model.specs.Tables.{Tables, Folder, FileName}
use Rattle.bep_model.specs.WithoutWinner.{IsFirstWithoutWinner}
use Rattle.bep_audit.specs.Certifier.{IsSettledIfAny, IsNeverSettled}

pub settled_if_any : SettledIsListOfWinners → ListOfWinnersIsUnique → (t : Tables) (rows : List Row) → IsListOfWinners t rows → IsSettledIfAny t rows
settled_if_any winners one_list t rows list others settled =
    let same = one_list t others rows (winners t others settled) list in
    (same, subst (IsSettled t) same settled)

pub never_settled : SettledIsListOfWinners → WinnersLeaveNoneOut → (t : Tables) (folder : Folder) (name : FileName) → IsFirstWithoutWinner t folder name → IsNeverSettled t
never_settled winners none_out t folder name first rows settled = none_out t rows folder name (winners t rows settled) first.without
