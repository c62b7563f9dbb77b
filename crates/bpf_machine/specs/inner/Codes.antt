-- How values of the definitions are told apart in proofs.
use Rattle.std.specs.Prelude.{ℕ, refl}
use Rattle.std.specs.FinMap as map
use Rattle.std.specs.FinMap.{FinMap}
use Rattle.std.specs.Ordering.{nat_cmp}
use Rattle.std.specs.Coded.{Coded, code_by, coded×, coded_ℕ}
use Rattle.bpf_machine.specs.Machine.{Frame}
use Rattle.bpf_machine.specs.declared.word.Word.{Word}

abbrev pub frame_code : Coded Word → Coded Frame
frame_code word =
    code_by (ℕ × (FinMap nat_cmp Word × (FinMap nat_cmp ℕ × FinMap nat_cmp Word)))
    (coded× coded_ℕ (coded× (map.code coded_ℕ word) (coded× (map.code coded_ℕ coded_ℕ) (map.code coded_ℕ word))))
    (λ f. (f.slot, (f.registers, (f.stack, f.kept))))
    (λ p. record { slot = p.0; registers = p.1.0; stack = p.1.1.0; kept = p.1.1.1 }) (λ _. refl)
