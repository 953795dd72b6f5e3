use Rattle.std.proofs.Common.{vec_items}
use Rattle.timelines.specs.Courses.{account_at}
use Rattle.timelines.proofs.CurveLaws.{IsDrawn}
use Rattle.timelines.proofs.timeline.Timeline.curve.Given as goal

abbrev pub invariant-loop-begin : goal.invariant-loop-begin
invariant-loop-begin g l = IsDrawn (λ t. g.M.Measure.level l.self.measure (account_at (vec_items l.self.stretches) t) t) (g.M.DatedMeasure.lowest l.self.measure) (g.M.DatedMeasure.highest l.self.measure) (account_at (vec_items l.self.stretches)) l.span.first l.span.last (vec_items l.columns) l.begin
