use Rattle.std.proofs.Common.{◌≡◌, ℕ, ◌+◌, ◌≤◌, leb, vec_items, sym, subst, ⊎_elim, arith}
use Rattle.std.proofs.lemmas.Bool.{cases_Bool, leb-true, leb-false}
use Rattle.measures.specs.declared.account.Account.{Account}
use Rattle.timelines.specs.Courses.{account_at}
use Rattle.timelines.specs.Views.{Inside, NoWider}
use Rattle.timelines.proofs.RangeLaws.{told_here, no_wider_joined}
use Rattle.timelines.proofs.timeline.Timeline.level_range.Goals as goal

-- a tick is among those seen before this turn, or the account of this turn is in force there
pub loop-end-preserved : goal.loop-end-preserved
loop-end-preserved g c =
    let low = g.M.DatedMeasure.lowest c.args.self.now.measure in
    let high = g.M.DatedMeasure.highest c.args.self.now.measure in
    let account : ℕ → Account = account_at (vec_items c.args.self.now.stretches) in
    let seen = c.loop-end.invariant in
    let next = c.in_force-next in
    let end = c.min-end-in-loop-end.result in
    record {
      within = omega arith;
      begun = λ h. let before = seen.begun h in omega arith;
      inside = λ k h l.
          let both = c.join-range.ensures.has_both_within in
          ⊎_elim
          (λ old. both.0 _ (seen.inside k h (leb-true k c.loop-end.end old)))
          (λ new.
          let late = leb-false k c.loop-end.end new in
          let same = next.ensures.stays_until k (omega arith) (omega arith) in
          both.1 _ (subst (λ (a : Account). Inside (g.M.Measure.level c.args.self.now.measure a k) c.over.result) (sym same) (c.over.ensures.no_level_between_is_outside k (omega arith, omega arith))))
          (cases_Bool (leb k c.loop-end.end));
      no_wider = λ h.
          let before = seen.begun h in
          let some : c.loop-end.end + 1 ≤ end = omega arith in
          let stays : (k : ℕ) → c.loop-end.end + 1 ≤ k → k ≤ end → account k ≡ next.result.account = (λ k from to. next.ensures.stays_until k from (omega arith)) in
          let new : NoWider low high account c.args.span.first end c.over.result = record {
            low_is_told = told_here low account c.args.span.first next.result.account (c.loop-end.end + 1) end c.over.result.lowest (omega arith) some next.ensures.account_at_the_tick stays c.over.ensures.lowest_of_the_measure;
            high_is_told = told_here high account c.args.span.first next.result.account (c.loop-end.end + 1) end c.over.result.highest (omega arith) some next.ensures.account_at_the_tick stays c.over.ensures.highest_of_the_measure;
          } in
          no_wider_joined low high account c.args.span.first c.loop-end.end end c.loop-end.range c.over.result c.join-range.result (omega arith) (seen.no_wider h) new c.join-range.ensures.lowest_of_the_two c.join-range.ensures.highest_of_the_two;
    }
