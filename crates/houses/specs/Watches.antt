-- The desk by what it knows of the house that is followed, and what each command does.
use Rattle.std.specs.Prelude.{◌≡◌, ℕ, zero, suc, ◌<◌, ◌≤◌, Bool, true, false, List, [], ◌∷◌, ◌++◌, Some, None, Ok, Err, Option, Result}
use Rattle.std.specs.Option.{option_map}
use Rattle.pools.specs.declared.amounts.Amounts.{Amounts}
use Rattle.pools.specs.Totals.{total}
use Rattle.measures.specs.declared.site.Site.{Site}
use Rattle.measures.specs.Clock.{on_clock}
use Rattle.measures.specs.Shares.{equal_part}
use Rattle.measures.specs.Holdings.{holding_of}
use Rattle.measures.specs.Sites.{made_of}
use Rattle.timelines.specs.declared.stretch.Stretch.{Stretch}
use Rattle.timelines.specs.declared.timeline.NotHeld.TheVariants.{Earlier, NoMemory}
use Rattle.timelines.specs.Courses.{last_change}
use Rattle.timelines.specs.Changes.{change_at}
use Rattle.houses.specs.declared.kind.Kind.{Kind}
use Rattle.houses.specs.declared.house.House.{House}
use Rattle.houses.specs.declared.command.HouseCommand.{HouseCommand}
use Rattle.houses.specs.declared.command.HouseCommand.TheVariants.{Follow, Hold, Show, Curve}
use Rattle.houses.specs.declared.command.HouseAnswer.{HouseAnswer}
use Rattle.houses.specs.declared.command.HouseAnswer.TheVariants.{Followed, Held, Shown}
use Rattle.houses.specs.declared.command.HouseRefusal.{HouseRefusal}
use Rattle.houses.specs.declared.command.HouseRefusal.TheVariants.{NoSite, NoSeats, NoHouse, NotHeld}
use Rattle.houses.specs.declared.watch.Watch.{Watch}
use Rattle.houses.specs.Houses.{supplies_in_use, kind_of, site_of, course_of, brought_under}

-- what is known of a house
pub record HouseState : Type 0 where
  pub kind : Kind
  pub site : Site
  pub course : List Stretch

abbrev pub state_of : House → HouseState
state_of h = record { kind = kind_of h; site = site_of h; course = course_of h }

abbrev pub watched : Watch → Option HouseState
watched w = option_map state_of w.house

-- the reply to a change: it is turned down exactly when it is earlier than the last one; only memory may be wanting besides
abbrev pub HoldReply : ℕ → ℕ → Result HouseAnswer HouseRefusal → Type 0
HoldReply last t (Ok Held) = last ≤ t
HoldReply last t (Err (NotHeld (Earlier n))) = (t < last) × (n ≡ last)
HoldReply last t (Err (NotHeld NoMemory)) = last ≤ t
HoldReply last t _ = ⊥

-- the reply to a command, by the capacities of the site, if there is one, and the house that was followed before
abbrev pub Replies : Option Amounts → Option HouseState → HouseCommand → Result HouseAnswer HouseRefusal → Type 0
Replies None before (Follow k seats) r = r ≡ Err NoSite
Replies (Some capacity) before (Follow k zero) r = r ≡ Err NoSeats
Replies (Some capacity) before (Follow k (suc n)) r = r ≡ Ok Followed
Replies capacity None (Hold t amounts) r = r ≡ Err NoHouse
Replies capacity (Some h) (Hold t amounts) r = HoldReply (last_change h.course) (on_clock t) r
Replies capacity None (Show ticks) r = r ≡ Err NoHouse
Replies capacity (Some h) (Show ticks) r = r ≡ Ok Shown
Replies capacity None (Curve span) r = r ≡ Err NoHouse
Replies capacity (Some h) (Curve span) r = r ≡ Ok Shown

-- a new house of a site: nothing has changed yet
pub record Fresh (capacity : Amounts) (k : Kind) (seats : ℕ) (h : HouseState) : Type 0 where
  pub its_kind : h.kind ≡ k
  pub its_site : made_of h.site ≡ (capacity, supplies_in_use (total capacity), equal_part seats)
  pub no_change : h.course ≡ []

abbrev pub Starts : Option Amounts → Kind → ℕ → Option HouseState → Type 0
Starts None k seats after = ⊥
Starts (Some capacity) k seats None = ⊥
Starts (Some capacity) k seats (Some h) = Fresh capacity k seats h

-- one change more
abbrev pub with_change : ℕ → Amounts → HouseState → HouseState
with_change t amounts h = record {
  kind = h.kind;
  site = h.site;
  course = h.course ++ change_at (brought_under h.kind h.site) h.course t (holding_of (total amounts)) ∷ [];
}

-- what is followed after a command that got this reply; one that is turned down changes nothing
abbrev pub After : Option Amounts → Option HouseState → HouseCommand → Result HouseAnswer HouseRefusal → Option HouseState → Type 0
After capacity before (Follow k seats) (Ok a) after = (a ≡ Followed) × Starts capacity k seats after
After capacity before (Hold t amounts) (Ok a) after = (a ≡ Held) × (after ≡ option_map (with_change t amounts) before)
After capacity before (Show ticks) (Ok a) after = (a ≡ Shown) × (after ≡ before)
After capacity before (Curve span) (Ok a) after = (a ≡ Shown) × (after ≡ before)
After capacity before command (Err refusal) after = after ≡ before

-- a question, and a command that is turned down, leave the house as it was
abbrev pub leaves_house : Result HouseAnswer HouseRefusal → Bool
leaves_house (Ok Followed) = false
leaves_house (Ok Held) = false
leaves_house (Ok Shown) = true
leaves_house (Err refusal) = true
