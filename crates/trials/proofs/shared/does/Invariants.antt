use Rattle.trials.proofs.shared.does.Given as goal

abbrev pub ghosts-on_bench-B-Ledger : goal.ghosts-on_bench-B-Ledger
ghosts-on_bench-B-Ledger g a = record { name = a.entries.name; parts = a.entries.parts }

abbrev pub ghosts-on_bench-C-Ledger : goal.ghosts-on_bench-C-Ledger
ghosts-on_bench-C-Ledger g a = record { name = a.closes.name; parts = a.closes.parts }
