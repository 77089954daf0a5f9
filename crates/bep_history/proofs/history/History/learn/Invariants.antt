use Rattle.bep_history.proofs.history.History.learn.Given as goal

abbrev pub ghosts-learn_of : goal.ghosts-learn_of
ghosts-learn_of a = record { objects = a.self.now.table.shared.key.items }
