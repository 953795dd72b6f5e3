-- What the words of a line say that may be about a house.
use Rattle.std.specs.Prelude.{◌≡◌, ℕ, ◌⊎◌, List, length, codes}
use Rattle.std.specs.Borrow.{Bor}
use Rattle.pools.specs.Totals.{of_array}
use Rattle.site_scripts.specs.Numbers.{decimal_value, numbers}
use Rattle.site_scripts.specs.Words.{Words, word_at, words_after, SaysSite, name_of_site}
use Rattle.timelines.specs.declared.span.Span.{Span}
use Rattle.houses.specs.Kinds.{kind_word}
use Rattle.houses.specs.declared.command.Ticks.{Ticks}
use Rattle.houses.specs.declared.command.HouseCommand.{HouseCommand}
use Rattle.houses.specs.declared.command.HouseCommand.TheVariants.{Follow, Hold, Show, Curve}
use Rattle.scripts.specs.declared.request.Request.{Request}
use Rattle.scripts.specs.declared.request.Request.TheVariants.{Site, House}

-- the first tick, the word `to` and the last
pub record SaysSpan (d : Bor (List ℕ)) (words : Words) (span : Span) : Type 0 where
  pub the_first : span.first ≡ decimal_value (word_at d words 0)
  pub the_word : word_at d words 1 ≡ codes "to"
  pub the_last : span.last ≡ decimal_value (word_at d words 2)

-- one tick alone
pub record SaysTick (d : Bor (List ℕ)) (words : Words) (ticks : Ticks) : Type 0 where
  pub alone : length words ≡ 1
  pub the_first : ticks.span.first ≡ decimal_value (word_at d words 0)
  pub the_last : ticks.span.last ≡ decimal_value (word_at d words 0)

-- a span, the word `by` and the step
pub record SaysSteps (d : Bor (List ℕ)) (words : Words) (ticks : Ticks) : Type 0 where
  pub the_span : SaysSpan d words ticks.span
  pub the_word : word_at d words 3 ≡ codes "by"
  pub the_step : ticks.step ≡ decimal_value (word_at d words 4)

-- the tick of a change, the word `hold` and what is held
pub record SaysChange (d : Bor (List ℕ)) (words : Words) (tick : ℕ) (h : List ℕ) : Type 0 where
  pub the_tick : tick ≡ decimal_value (word_at d words 0)
  pub the_word : word_at d words 1 ≡ codes "hold"
  pub the_amounts : of_array h ≡ numbers d (words_after 2 words)

-- what the words after the name of a command about a house say
abbrev pub SaysHouse : Bor (List ℕ) → Words → HouseCommand → Type 0
SaysHouse d words (Follow kind seats) = (word_at d words 0 ≡ kind_word kind) × (seats ≡ decimal_value (word_at d words 1))
SaysHouse d words (Hold tick amounts) = SaysChange d words tick amounts.each
SaysHouse d words (Show ticks) = SaysTick d words ticks ⊎ SaysSteps d words ticks
SaysHouse d words (Curve span) = SaysSpan d words span

abbrev pub name_of_house : HouseCommand → List ℕ
name_of_house (Follow kind seats) = codes "house"
name_of_house (Hold tick amounts) = codes "at"
name_of_house (Show ticks) = codes "show"
name_of_house (Curve span) = codes "curve"

abbrev pub name_of : Request → List ℕ
name_of (Site command) = name_of_site command
name_of (House command) = name_of_house command

abbrev pub SaysRest : Bor (List ℕ) → Words → Request → Type 0
SaysRest d words (Site command) = SaysSite d words command
SaysRest d words (House command) = SaysHouse d words command
