use Rattle.std.proofs.Common.{◌+◌, ◌<◌, ◌≤◌, leb, List, length, sym, subst, rules, arith}
use Rattle.std.specs.List.{AllWithin}
use Rattle.std.specs.List.Sorted.{IsNonDecreasingBy}
use Rattle.std.proofs.lemmas.List.Sorted.{IsPartitionPoint-from_clause, IsPartitionedBy-leb, IsNonDecreasingBy-take, IsNonDecreasingBy-drop}
use Rattle.timelines.specs.declared.stretch.Stretch.{Stretch}
use Rattle.timelines.specs.Courses.{IsCut}
use Rattle.timelines.proofs.CourseLaws.{cut_at, point_of_all}
use Rattle.timelines.proofs.timeline.Timeline.cut_at.Goals as goal

pub returns : goal.returns
returns g c =
    let t = c.args.tick in
    let begun = c.bounds_of_cut-begun.result.0 in
    let reach = c.bounds_of_cut-begun.result.1 in
    let bounds = c.bounds_of_cut-begun.ensures in
    let i = c.partition_point.result in
    let xs = c.as_slice-stretches.result.now in
    let near = c.split_at-2.result.0.now in
    let between = c.split_at-3.result.1.now in
    let same = c.as_slice-stretches.ensures.value in
    let Rising : List Stretch → Type 0 = IsNonDecreasingBy (λ (s : Stretch). s.from) in
    let sorted = subst Rising (sym same) c.args.self.now.ticks_never_fall in
    let sorted_near = subst Rising (sym c.split_at-2.ensures.front) (IsNonDecreasingBy-take (λ (s : Stretch). s.from) reach xs sorted) in
    let sorted_between = subst Rising (sym c.split_at-3.ensures.back) (IsNonDecreasingBy-drop (λ (s : Stretch). s.from) begun near sorted_near) in
    let point = IsPartitionPoint-from_clause (λ (s : Stretch). leb s.from t) between i c.partition_point.ensures.partitioned (IsPartitionedBy-leb (λ (s : Stretch). s.from) between t sorted_between) (λ a r q k. search rules) in
    let first = subst (λ (l : List Stretch). AllWithin (λ (s : Stretch). s.from ≤ t) l 0 begun) (sym same) bounds.first_ones_have_begun in
    let later = subst (λ (l : List Stretch). AllWithin (λ (s : Stretch). t < s.from) l reach (length l)) (sym same) bounds.later_ones_have_not_begun in
    let all = point_of_all xs near between begun reach i t c.split_at-2.ensures.by_index.1 c.split_at-3.ensures.by_index.2 c.split_at-2.ensures.front_len (omega arith) first later point c.partition_point.ensures.bound in
    let cut = cut_at xs _ _ (begun + i) t all c.split_at-4.ensures.by_index c.split_at-4.ensures.front_len c.split_at-4.ensures.back_len in
    record { begun_and_not_begun = subst (λ (l : List Stretch). IsCut l c.split_at-4.result.0.now c.split_at-4.result.1.now t) same cut }
