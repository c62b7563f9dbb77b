use Rattle.bench_tests.proofs.tests.shared.run_test.Given as goal

abbrev pub ghosts-run_branded-B-Ledger : goal.ghosts-run_branded-B-Ledger
ghosts-run_branded-B-Ledger g a = record { name = a.entries.name; parts = a.entries.parts }

abbrev pub ghosts-run_branded-C-Ledger : goal.ghosts-run_branded-C-Ledger
ghosts-run_branded-C-Ledger g a = record { name = a.closes.name; parts = a.closes.parts }
