use Rattle.std.proofs.Common.{ℕ, ◌-◌, ◌≤◌, vec_items}
use Rattle.timelines.specs.Courses.{account_at}
use Rattle.timelines.specs.Views.{Inside, NoWider}
use Rattle.timelines.proofs.timeline.Timeline.level_range.Given as goal

abbrev pub invariant-loop-end : goal.invariant-loop-end
invariant-loop-end g l =
    record {
      within : l.end ≤ l.span.last;
      begun : l.span.first ≤ l.span.last → l.span.first ≤ l.end;
      inside : (k : ℕ) → l.span.first ≤ k → k ≤ l.end → Inside (g.M.Measure.level l.self.measure (account_at (vec_items l.self.stretches) k) k) l.range;
      no_wider : l.span.first ≤ l.span.last → NoWider (g.M.DatedMeasure.lowest l.self.measure) (g.M.DatedMeasure.highest l.self.measure) (account_at (vec_items l.self.stretches)) l.span.first l.end l.range;
    }

abbrev pub decreases-loop-end : goal.decreases-loop-end
decreases-loop-end g l = l.span.last - l.end
