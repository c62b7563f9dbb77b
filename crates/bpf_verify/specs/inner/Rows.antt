-- How the verifier keeps an abstract state.
use Rattle.std.specs.Prelude.{ℕ, List, slice_index_or, Option, Some, None}
use Rattle.std.specs.declared.boxed.Box.{Box}
use Rattle.bpf_verify.specs.declared.abstract_value.AbstractValue.{AbstractValue}
use Rattle.bpf_verify.specs.declared.abstract_value.AbstractValue.TheVariants.{Unset}
use Rattle.bpf_verify.specs.declared.abstract_state.AbstractState.{AbstractState as KeptState}
use Rattle.bpf_verify.specs.declared.abstract_state.Entries.{Entries}
use Rattle.bpf_verify.specs.States.{AbstractState, abstract_state}
use Rattle.bpf_verify.specs.inner.Marks.{is_marked}

abbrev pub kind_numbered : List AbstractValue → ℕ → AbstractValue
kind_numbered kinds number = slice_index_or kinds number Unset

-- what is known of each double word of the stack: nothing, if no list was made
abbrev pub kept_entry_in : {A : Type 0} → Option (Box Entries A) → ℕ → AbstractValue
kept_entry_in None dword = Unset
kept_entry_in (Some held) dword = kind_numbered held.value.kinds dword

abbrev pub abstract_of : KeptState → AbstractState
abstract_of known =
    abstract_state (kind_numbered known.kinds.list) (is_marked known.marks.words) (kept_entry_in known.entries)
