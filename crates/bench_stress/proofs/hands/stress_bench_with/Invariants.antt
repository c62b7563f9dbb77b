use Rattle.bench_stress.proofs.hands.stress_bench_with.Given as goal

abbrev pub ghosts-hands-B-Ledger : goal.ghosts-hands-B-Ledger
ghosts-hands-B-Ledger g a = record { name = a.entries.name; parts = a.entries.parts }

abbrev pub ghosts-hands-C-Ledger : goal.ghosts-hands-C-Ledger
ghosts-hands-C-Ledger g a = record { name = a.closes.name; parts = a.closes.parts }
