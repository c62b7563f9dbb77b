-- How values of the definitions are told apart in proofs.
use Rattle.std.specs.Prelude.{ℕ, refl}
use Rattle.std.specs.FinMap as map
use Rattle.std.specs.Coded.{Coded, code_by, coded×, coded_ℕ}
use Rattle.node_env.specs.Env.{Sendings, Setting}
use Rattle.std.specs.Ordering.{nat_cmp}
use Rattle.std.specs.FinMap.{FinMap}

abbrev pub numbers_code : Coded (FinMap nat_cmp ℕ)
numbers_code = map.code coded_ℕ coded_ℕ

abbrev pub sendings_code : Coded Sendings
sendings_code = code_by (ℕ × FinMap nat_cmp ℕ) (coded× coded_ℕ numbers_code) (λ s. (s.nodes, s.sent))
    (λ p. record { nodes = p.0; sent = p.1 }) (λ _. refl)

abbrev pub setting_code : Coded Setting
setting_code = code_by ((ℕ × ℕ) × (ℕ × (ℕ × FinMap nat_cmp ℕ)))
    (coded× (coded× coded_ℕ coded_ℕ) (coded× coded_ℕ (coded× coded_ℕ numbers_code)))
    (λ e. ((e.shape.nodes, e.shape.memory), (e.id, (e.coin, e.inbox))))
    (λ p. record { shape = record { nodes = p.0.0; memory = p.0.1 }; id = p.1.0; coin = p.1.1.0; inbox = p.1.1.1 })
    (λ _. refl)
