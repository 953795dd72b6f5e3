use Rattle.std.proofs.Common.{◌≡◌, ◌+◌, ◌-◌, ◌*◌, ◌/◌, ap}
use Rattle.measures.specs.Commitments.{commitment_after, mixed}
use Rattle.measures.proofs.commitment.commitment_after.Goals as goal

computed : (c : goal.After-weight_after-weight) → (c.weight_after-weight.result * c.args.recorded + (65536 - c.weight_after-weight.result) * c.args.excess) / 65536 ≡ commitment_after c.args.elapsed c.args.recorded c.args.excess
unfolding commitment_after mixed
computed c = ap (λ w. mixed w c.args.recorded c.args.excess) c.weight_after-weight.ensures.entry_for_the_ticks_elapsed

pub returns : goal.returns
returns c = record { recorded_fades_into_the_excess = computed c }
