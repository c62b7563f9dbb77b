use Rattle.bench_example_tests.proofs.tests.bench_engine_example.bench_engine_example.Given as goal

abbrev pub ghosts-pulse_of-B-Ledger : goal.ghosts-pulse_of-B-Ledger
ghosts-pulse_of-B-Ledger g a = record { name = a.entries.name; parts = a.entries.parts }

abbrev pub ghosts-pulse_of-C-Ledger : goal.ghosts-pulse_of-C-Ledger
ghosts-pulse_of-C-Ledger g a = record { name = a.closes.name; parts = a.closes.parts }
