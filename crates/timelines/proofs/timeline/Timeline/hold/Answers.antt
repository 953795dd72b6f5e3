use Rattle.std.proofs.Common.{◌≡◌, ◌-◌, length, vec_items, sym, ap, ◌∙◌, rules, arith}
use Rattle.std.specs.List.{slice_get}
use Rattle.std.specs.Option.{option_map_or}
use Rattle.measures.specs.Clock.{on_clock}
use Rattle.timelines.specs.declared.stretch.Stretch.{Stretch}
use Rattle.timelines.specs.Courses.{account_at}
use Rattle.timelines.proofs.CourseLaws.{change_more, account_last}
use Rattle.timelines.proofs.timeline.Timeline.hold.Goals as goal

pub invariant_of-self : goal.invariant_of-self
invariant_of-self g c = record { ticks_never_fall = change_more _ _ _ _ c.args.self.now.ticks_never_fall (omega arith) c.push.ensures.items }

pub returns-clause-notes_the_change : goal.returns-clause-notes_the_change
returns-clause-notes_the_change g c =
    let xs = vec_items c.args.self.now.stretches in
    let t = on_clock c.args.tick in
    let read : c.map_or-before.result ≡ option_map_or (λ (s : Stretch). s.account) (slice_get xs (length xs - 1)) c.new_account.result = search rules in
    let new = ap (λ a. option_map_or (λ (s : Stretch). s.account) (slice_get xs (length xs - 1)) a) c.new_account.ensures.nothing_held_and_no_past in
    let same : c.map_or-before.result ≡ account_at xs t = read ∙ new ∙ sym (account_last xs t c.args.self.now.ticks_never_fall (omega arith)) in
    search rules
