use Rattle.std.proofs.Common.{ℕ, ◌+◌, ◌≤◌, List, vec_items, subst, sym, arith}
use Rattle.std.specs.List.{All}
use Rattle.measures.specs.declared.account.Account.{Account}
use Rattle.timelines.specs.declared.stretch.Column.{Column}
use Rattle.timelines.specs.Views.{IsTight}
use Rattle.timelines.specs.Courses.{account_at}
use Rattle.timelines.proofs.CurveLaws.{IsDrawn, drawn_more}
use Rattle.timelines.proofs.timeline.Timeline.curve.Goals as goal
use Rattle.timelines.proofs.timeline.Timeline.curve.Goals.{else-loop-begin-test, then-loop-begin-test+in_ok-push+else-begin-step-begin-end}

pub loop-begin-preserved : goal.loop-begin-preserved
loop-begin-preserved g c =
    let range = c.level_range-range.ensures in
    let some : c.loop-begin.begin ≤ c.min.result = omega arith in
    drawn_more _ _ _ _ _ _ _ _ _ _ c.loop-begin.invariant (omega arith) some (omega arith) range.no_level_between_is_outside (range.no_wider_than_the_measure_tells some) c.in_ok-push.ensures.items (omega arith)

-- the loop ends before a turn, or after the turn with the last column
pub returns : goal.returns
returns g c =
    let account : ℕ → Account = account_at (vec_items c.args.self.now.stretches) in
    let level : ℕ → ℕ = (λ t. g.M.Measure.level c.args.self.now.measure (account t) t) in
    let low : Account → ℕ → ℕ → ℕ = g.M.DatedMeasure.lowest c.args.self.now.measure in
    let high : Account → ℕ → ℕ → ℕ = g.M.DatedMeasure.highest c.args.self.now.measure in
    let Drawn : List Column → Type 0 = (λ xs. IsDrawn level low high account c.args.span.first c.on_clock.result xs (c.on_clock.result + 1)) in
    let Tight : ℕ → Type 0 = (λ last. All (IsTight low high account c.args.span.first last) (vec_items c.loop-begin-test.columns)) in
    let drawn : Drawn (vec_items c.loop-begin-test.columns) =
    elim c.loop-begin-test.branch [
      | else-loop-begin-test w ↦
          let seen = c.loop-begin.invariant in
          subst (λ v. Drawn (vec_items v)) (sym w.columns-is) (record { covered = λ k h l. seen.covered k h (omega arith); tight = seen.tight })
      | then-loop-begin-test+in_ok-push+else-begin-step-begin-end w ↦
          let range = w.level_range-range.ensures in
          let some : c.loop-begin.begin ≤ w.min.result = omega arith in
          subst (λ v. Drawn (vec_items v)) (sym w.columns-is)
          (drawn_more _ _ _ _ _ _ _ _ _ _ c.loop-begin.invariant (omega arith) some (omega arith) range.no_level_between_is_outside (range.no_wider_than_the_measure_tells some) w.in_ok-push.ensures.items (omega arith))
    ]
    in
    record { columns_hide_no_level = λ k h l. drawn.covered k h (omega arith); columns_are_no_wider_than_the_measure_tells = subst Tight c.on_clock.ensures.tick_or_the_end_of_the_clock drawn.tight }
