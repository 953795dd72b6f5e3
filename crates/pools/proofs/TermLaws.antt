-- What a pool answers, from what is known of its terms and its used total.
use Rattle.std.proofs.Common.{◌≡◌, Bool, Option, ◌∙◌}
use Rattle.pools.specs.declared.fault.PoolFault.{PoolFault}
use Rattle.pools.specs.Totals.{Total, nothing, is_within}
use Rattle.pools.specs.Terms.{Terms, admits}
use Rattle.pools.specs.Layers.{layer_fault}

pub admits_known : {m n : Terms} {u v : Total} (demand : Total) → m ≡ n → u ≡ v → {answer : Bool} → answer ≡ admits m u demand → answer ≡ admits n v demand
admits_known demand p q e = e ∙ (λ i. admits (p i) (q i) demand)

pub reserve_fault_known : {m n : Terms} {u v : Total} (held : Total) → m ≡ n → u ≡ v → {fault : Option PoolFault} → fault ≡ layer_fault (admits m u held) (is_within u nothing) → fault ≡ layer_fault (admits n v held) (is_within v nothing)
reserve_fault_known held p q e = e ∙ (λ i. layer_fault (admits (p i) (q i) held) (is_within (q i) nothing))
