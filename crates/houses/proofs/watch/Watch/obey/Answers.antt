use Rattle.std.proofs.Common.{◌≡◌, [], ◌∷◌, ◌++◌, ap, ◌∙◌, rules}
use Rattle.timelines.specs.Changes.{change_at}
use Rattle.houses.specs.Houses.{kind_of, site_of, course_of, brought_under}
use Rattle.houses.specs.Watches.{state_of, with_change}
use Rattle.houses.proofs.watch.Watch.obey.Goals as goal

pub returns-in_ok-hold-in-Hold-clause-moves_by_the_rules : goal.returns-in_ok-hold-in-Hold-clause-moves_by_the_rules
returns-in_ok-hold-in-Hold-clause-moves_by_the_rules c =
    let house = c.in_ok-house-in-Hold.house.now in
    let done = c.in_ok-hold-in-Hold.ensures in
    let course = done.notes_the_change ∙ ap (λ h. course_of house ++ change_at (brought_under (kind_of house) (site_of house)) (course_of house) c.in-Hold.tick h ∷ []) c.from.ensures in
    let state : state_of c.hold.new.self ≡ with_change c.in-Hold.tick c.in-Hold.amounts (state_of house) = (λ i. record { kind = done.keeps_its_kind i; site = done.keeps_its_site i; course = course i }) in
    search rules
