use Rattle.std.proofs.Common.{List, slice_index_or, vec_items, ap, arith}
use Rattle.std.proofs.lemmas.List.{get_or_default}
use Rattle.timelines.specs.declared.stretch.Stretch.{Stretch}
use Rattle.timelines.proofs.timeline.Timeline.bounds_of_cut.Goals as goal
use Rattle.timelines.proofs.timeline.Timeline.bounds_of_cut.Goals.{then-loop-reach-test+else-stretches-reach, else-loop-reach-test}

-- ticks never fall, so those before one that has begun have too
pub loop-reach-preserved : goal.loop-reach-preserved
loop-reach-preserved g c =
    let xs = vec_items c.args.self.now.stretches in
    let at = c.loop-reach.reach in
    let e = c.index-stretches-reach.result in
    let read = ap (λ (l : List Stretch). (slice_index_or l at e).from) c.as_slice-stretches.ensures.value in
    record {
      ahead = omega arith;
      within = omega arith;
      have = λ k d low high.
          let same = ap (λ (s : Stretch). s.from) (get_or_default xs at d e (omega arith)) in
          let rises = c.args.self.now.ticks_never_fall k at d (omega arith) (omega arith) in
          omega arith;
    }

-- and those after one that has not begun have not either
pub returns-clause-later_ones_have_not_begun : goal.returns-clause-later_ones_have_not_begun
returns-clause-later_ones_have_not_begun g c k d after before =
    let xs = vec_items c.args.self.now.stretches in
    elim c.loop-reach-test.branch [
      | then-loop-reach-test+else-stretches-reach w ↦
          let at = c.loop-reach.reach in
          let e = w.index-stretches-reach.result in
          let read = ap (λ (l : List Stretch). (slice_index_or l at e).from) c.as_slice-stretches.ensures.value in
          let same = ap (λ (s : Stretch). s.from) (get_or_default xs at d e (omega arith)) in
          let rises = c.args.self.now.ticks_never_fall at k d (omega arith) before in
          omega arith
      | else-loop-reach-test w ↦ omega arith
    ]
