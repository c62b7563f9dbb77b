-- Laws of names.
use Rattle.std.specs.Prelude.{◌≡◌}
use Rattle.properties.specs.declared.names.PairName.{PairName}
use Rattle.properties.specs.Names.{local_of_name, name_of_local}

-- no two names have one local
abbrev pub NamesHaveLocals : Type 0
NamesHaveLocals = (name : PairName) → name_of_local (local_of_name name) ≡ name
