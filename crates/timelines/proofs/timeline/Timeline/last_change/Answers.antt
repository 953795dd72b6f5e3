use Rattle.std.proofs.Common.{◌≡◌, ◌-◌, length, ap, ◌∙◌, rules}
use Rattle.std.specs.List.{slice_get}
use Rattle.std.specs.Option.{option_map_or}
use Rattle.timelines.specs.declared.stretch.Stretch.{Stretch}
use Rattle.timelines.specs.Courses.{last_change}
use Rattle.timelines.proofs.CourseLaws.{latest_read, latest_change}
use Rattle.timelines.proofs.timeline.Timeline.last_change.Goals as goal

pub returns : goal.returns
returns g c =
    let xs = c.deref.result.now in
    let read : c.map_or.result ≡ option_map_or (λ (s : Stretch). s.from) (slice_get xs (length xs - 1)) 0 = search rules in
    record { tick_of_the_last_change = read ∙ latest_read (λ s. s.from) 0 xs ∙ latest_change 0 xs ∙ ap last_change c.deref.ensures.value }
