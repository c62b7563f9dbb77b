-- What the memories that a watcher keeps are.
use Rattle.std.specs.Prelude.{ℕ, List, Vec, map}
use Rattle.std.specs.declared.alloc.Global.{Global}

abbrev pub memory_lists : List (Vec ℕ Global) → List (List ℕ)
memory_lists memories = map (λ (memory : Vec ℕ Global). memory.items) memories
