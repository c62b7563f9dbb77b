use Rattle.bench_example_tests.proofs.tests.bench_shared_example.bench_shared_example.Given as goal

abbrev pub ghosts-entries_of-B-Ledger : goal.ghosts-entries_of-B-Ledger
ghosts-entries_of-B-Ledger g a = record { name = a.entries.name; parts = a.entries.parts }

abbrev pub ghosts-entries_of-C-Ledger : goal.ghosts-entries_of-C-Ledger
ghosts-entries_of-C-Ledger g a = record { name = a.closes.name; parts = a.closes.parts }
