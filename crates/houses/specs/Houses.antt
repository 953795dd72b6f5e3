-- What a house at the desk means: its measure, its site and its course.
use Rattle.std.specs.Prelude.{ℕ, cond, List, vec_items, nat_lt}
use Rattle.pools.specs.Totals.{Total}
use Rattle.measures.specs.declared.account.Account.{Account}
use Rattle.measures.specs.declared.past_record.PastRecord.{PastRecord}
use Rattle.measures.specs.declared.site.Site.{Site}
use Rattle.measures.specs.Records.{brought_to}
use Rattle.measures.specs.Levels.{stateful_level, stateful_lowest, stateful_highest, plain_level}
use Rattle.timelines.specs.declared.stretch.Stretch.{Stretch}
use Rattle.houses.specs.declared.kind.Kind.{Kind}
use Rattle.houses.specs.declared.kind.Kind.TheVariants as kind
use Rattle.houses.specs.declared.house.House.{House}
use Rattle.houses.specs.declared.house.House.TheVariants.{Stateful, Plain}

-- supplies up to the last that has a capacity, and one at least
abbrev pub supplies_in_use : Total → ℕ
supplies_in_use c = cond (nat_lt 0 c.s3) 4 (cond (nat_lt 0 c.s2) 3 (cond (nat_lt 0 c.s1) 2 1))

abbrev pub kind_of : House → Kind
kind_of (Stateful line) = kind.Stateful
kind_of (Plain line) = kind.Plain

abbrev pub site_of : House → Site
site_of (Stateful line) = line.measure.site
site_of (Plain line) = line.measure.site

abbrev pub course_of : House → List Stretch
course_of (Stateful line) = vec_items line.stretches
course_of (Plain line) = vec_items line.stretches

-- the level of an account under each measure
abbrev pub level_under : Kind → Site → Account → ℕ → ℕ
level_under kind.Stateful g a t = stateful_level g a t
level_under kind.Plain g a t = plain_level g a

-- the bounds on the level of an account over the ticks between two
abbrev pub lowest_under : Kind → Site → Account → ℕ → ℕ → ℕ
lowest_under kind.Stateful g a t u = stateful_lowest g a t u
lowest_under kind.Plain g a t u = plain_level g a

abbrev pub highest_under : Kind → Site → Account → ℕ → ℕ → ℕ
highest_under kind.Stateful g a t u = stateful_highest g a t u
highest_under kind.Plain g a t u = plain_level g a

-- its record brought to a tick
abbrev pub brought_under : Kind → Site → Account → ℕ → PastRecord
brought_under kind.Stateful g a t = brought_to g a t
brought_under kind.Plain g a t = a.past
