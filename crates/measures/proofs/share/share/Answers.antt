use Rattle.std.proofs.Common.{◌≡◌, ◌*◌, ◌/◌, arith, rules}
use native.Mathlib.Nat.{div-zero}
use Rattle.measures.specs.Shares.{share_of}
use Rattle.measures.specs.Bounds.{share_most}
use Rattle.measures.proofs.share.share.Goals as goal

-- a quotient by 0 is 0
pub returns-then-capacity-eq0 : goal.returns-then-capacity-eq0
unfolding share_of
returns-then-capacity-eq0 c = search (rules, div-zero)

computed : (c : goal.After-min-held) → c.min-held.result * 1048576 / c.args.capacity ≡ share_of c.args.amount c.args.capacity
unfolding share_of
computed c = search rules

pub returns : goal.returns
returns c = record {
  amount_in_the_capacity_rounded_down = computed c;
  at_most_the_whole = omega (arith, computed c, share_most c.args.amount c.args.capacity);
  nothing_in_no_capacity = search rules;
}
