use Rattle.std.proofs.Common.{◌≡◌, ◌∙◌, ℕ, List, Option, Some, None, map, option_map, sym, ap, subst}
use Rattle.std.specs.Prelude.{IfSome, IfNone}
use Rattle.std.specs.FinMap.{get}
use Rattle.bep_choice.specs.Choice.{Candidate, candidate_of, IsChoice}
use Rattle.bep_choice.proofs.Lent.{Lent}
use Rattle.bep_model.specs.Tables.{Tables, Folder, FileName}
use Rattle.bep_model.specs.Winner.{IsWinner}
use Rattle.bep_tables.specs.Cut.{tables_of}
use Rattle.bep_tables.specs.Listed.{listed}
use Rattle.bep_tables.specs.declared.share.Share.{Share}
use Rattle.bep_audit.specs.Candidates.{FindsWinner, own_among, owned_by, chooser_of}
use Rattle.bep_audit.proofs.OwnFacts.{group_owns}
use Rattle.bep_audit.proofs.WinnerSaid.{few_rise, winner_said, winner_is_named}
use Rattle.bep_audit.proofs.winner.winner_in.Goals as goal

pub winner_among-requires : goal.winner_among-requires
winner_among-requires c =
    let both = few_rise c.cut_says.ensures.found c.cut_says.ensures.has_folder c.args.cut.now c.shares.ensures.a_cut c.args.folder.now c.shares.result.now c.shares.ensures.value in
    record { few = both.0; rise = both.1 }

found_by : (t : Tables) (folder : Folder) (name : FileName) (found : Option Lent) → ((one : Candidate) → IsWinner t folder name one → one.1.name ≡ name) → IfSome found (λ one. IsWinner t folder name (candidate_of one)) → IfNone found ((one : Candidate) → ¬ IsWinner t folder name one) → FindsWinner t folder name (option_map candidate_of found)
found_by t folder name None named wins none = none
found_by t folder name (Some one) named wins none = (wins, named (candidate_of one) wins)

pub returns : goal.returns
returns c = λ name is_group.
    let laws = c.cut_says.ensures in
    let cut = c.args.cut.now in
    let folder = c.args.folder.now in
    let shares = c.shares.result.now in
    let is_cut = c.shares.ensures.a_cut in
    let own = λ (share : Share). own_among share.device (map listed c.args.group.now) in
    let said = winner_said laws.own cut folder name shares is_cut c.shares.ensures.value in
    let owns = ap (owned_by own) c.shares.ensures.value ∙ group_owns c.entries_are_held.ensures.held cut is_cut (folder, name) (map listed c.args.group.now) is_group laws.own ∙ ap (owned_by (λ (share : Share). get share.own name)) (sym c.shares.ensures.value) in
    let all : ◌≡◌ {A = ℕ × List Candidate} (chooser_of shares, owned_by own shares) _ = (λ i. (chooser_of shares, owns i)) ∙ said in
    found_by (tables_of cut) folder name c.winner_among.result
    (winner_is_named laws.found laws.has_folder laws.own cut folder name is_cut)
    (subst (λ (by : ℕ × List Candidate). IfSome c.winner_among.result (λ one. IsChoice by.0 by.1 (candidate_of one))) all c.winner_among.ensures.wins)
    (subst (λ (by : ℕ × List Candidate). IfNone c.winner_among.result ((one : Candidate) → ¬ IsChoice by.0 by.1 one)) all c.winner_among.ensures.none)
