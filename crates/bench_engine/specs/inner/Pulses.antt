-- Beside Pulses: what proofs and private contracts alone cite.
use Rattle.bench_engine.specs.declared.engine_error.EngineError.{EngineError}
use Rattle.bench_engine.specs.declared.engine_error.EngineError.TheVariants.{Open, Work, Close}

-- a refusal past the opening
abbrev pub IsLater : EngineError → Type 0
IsLater (Open e) = ⊥
IsLater (Work e) = Unit {0}
IsLater (Close e) = Unit {0}
