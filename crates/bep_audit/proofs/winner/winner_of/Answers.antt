use Rattle.std.proofs.Common.{ℕ, List, IfNone, IfSome, subst}
use Rattle.std.proofs.lemmas.Option.{IfSome_then}
use Rattle.bep_choice.specs.Choice.{Candidate, candidate_of, IsChoice}
use Rattle.bep_audit.proofs.WinnerSaid.{few_rise, winner_said, winner_is_named}
use Rattle.bep_audit.proofs.winner.winner_of.Goals as goal

pub winner_among-requires : goal.winner_among-requires
winner_among-requires c =
    let both = few_rise c.cut_says.ensures.found c.cut_says.ensures.has_folder c.args.cut.now c.shares.ensures.a_cut c.args.folder.now c.shares.result.now c.shares.ensures.value in
    record { few = both.0; rise = both.1 }

pub returns-clause-wins : goal.returns-clause-wins
returns-clause-wins c =
    subst (λ (by : ℕ × List Candidate). IfSome c.winner_among.result (λ one. IsChoice by.0 by.1 (candidate_of one)))
    (winner_said c.cut_says.ensures.own c.args.cut.now c.args.folder.now c.args.name.now c.shares.result.now c.shares.ensures.a_cut c.shares.ensures.value)
    c.winner_among.ensures.wins

pub returns-clause-none : goal.returns-clause-none
returns-clause-none c =
    subst (λ (by : ℕ × List Candidate). IfNone c.winner_among.result ((one : Candidate) → ¬ IsChoice by.0 by.1 one))
    (winner_said c.cut_says.ensures.own c.args.cut.now c.args.folder.now c.args.name.now c.shares.result.now c.shares.ensures.a_cut c.shares.ensures.value)
    c.winner_among.ensures.none

pub returns-clause-named : goal.returns-clause-named
returns-clause-named c =
    let laws = c.cut_says.ensures in
    IfSome_then c.winner_among.result (returns-clause-wins c)
    (λ one wins. winner_is_named laws.found laws.has_folder laws.own c.args.cut.now c.args.folder.now c.args.name.now c.shares.ensures.a_cut (candidate_of one) wins)
