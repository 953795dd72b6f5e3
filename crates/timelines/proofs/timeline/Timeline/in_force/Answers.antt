use Rattle.std.proofs.Common.{◌≡◌, ℕ, ◌-◌, ◌^◌, ◌≤◌, vec_items, length, sym, ap, ◌∙◌, arith, rules}
use Rattle.std.specs.List.{slice_get}
use Rattle.std.specs.Option.{option_map_or}
use Rattle.std.proofs.lemmas.Option.{MatchOption-at_some}
use Rattle.timelines.specs.declared.stretch.Stretch.{Stretch}
use Rattle.timelines.specs.Courses.{account_at}
use Rattle.timelines.proofs.CourseLaws.{account_cut, reaches_first, before_first}
use Rattle.timelines.proofs.timeline.Timeline.in_force.Goals as goal

pub map_or-requires-2 : goal.map_or-requires-2
map_or-requires-2 g c x is _ _ _ =
    let found = MatchOption-at_some _ _ x is c.first.ensures.item.3 in
    let after = c.cut_at.ensures.begun_and_not_begun.not_begun 0 x.now found.0 in
    let same = ap (λ (s : Stretch). s.from) (found.1 x.now) in
    omega arith

pub returns : goal.returns
returns g c =
    let begun = c.cut_at.result.0.now in
    let later = c.cut_at.result.1.now in
    let cut = c.cut_at.ensures.begun_and_not_begun in
    let read : c.map_or.result ≡ option_map_or (λ (s : Stretch). s.account) (slice_get begun (length begun - 1)) c.new_account.result = search rules in
    let until : c.map_or-2.result ≡ before_first (2 ^ 64 - 1) later = search rules in
    let new = ap (λ a. option_map_or (λ (s : Stretch). s.account) (slice_get begun (length begun - 1)) a) c.new_account.ensures.nothing_held_and_no_past in
    let here : (k : ℕ) → c.args.tick ≤ k → k ≤ before_first (2 ^ 64 - 1) later → account_at (vec_items c.args.self.now.stretches) k ≡ c.map_or.result = (λ k after within. account_cut c.args.tick (2 ^ 64 - 1) _ begun later cut k after within ∙ sym (read ∙ new)) in
    let reaches = reaches_first c.args.tick (2 ^ 64 - 1) later (omega (arith, c.ranges.tick.fits)) cut.not_begun in
    record {
      account_at_the_tick = sym (here c.args.tick (omega arith) reaches);
      stays_until = λ k after within. here k after (omega arith);
      reaches_the_tick = omega arith;
    }
