use Rattle.std.proofs.Common.{◌-◌, ◌≤◌, length, vec_items}
use Rattle.std.specs.List.{AllWithin}
use Rattle.timelines.specs.declared.stretch.Stretch.{Stretch}
use Rattle.timelines.proofs.timeline.Timeline.bounds_of_cut.Given as goal

abbrev pub invariant-loop-reach : goal.invariant-loop-reach
invariant-loop-reach g l = record {
  ahead : l.begun ≤ l.reach;
  within : l.begun ≤ length (vec_items l.self.stretches);
  have : AllWithin (λ (s : Stretch). s.from ≤ l.tick) (vec_items l.self.stretches) 0 l.begun;
}

abbrev pub decreases-loop-reach : goal.decreases-loop-reach
decreases-loop-reach g l = length (vec_items l.self.stretches) - l.reach
