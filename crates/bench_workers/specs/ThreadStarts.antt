-- Whether a thread couldn't be started (docs/THREADS.md, "Workers").
use Rattle.std.specs.Prelude.{Bool}
use Rattle.bench_workers.specs.declared.thread_starts.ThreadStarts.{ThreadStarts}

-- some start of a thread failed
abbrev pub has_failed : ThreadStarts → Bool
has_failed starts = starts.has_failed
