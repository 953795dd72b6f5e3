-- The words for what is turned down.
use Rattle.std.specs.Prelude.{ℕ, List, ◌++◌, codes}
use Rattle.houses.specs.declared.command.HouseRefusal.{HouseRefusal}
use Rattle.houses.specs.declared.command.HouseRefusal.TheVariants.{NoSite, NoSeats, NoHouse, NotHeld}
use Rattle.timelines.specs.Changes.{not_held_words}

abbrev pub refusal_words : HouseRefusal → List ℕ
refusal_words NoSite = codes "no site yet: begin with `site`"
refusal_words NoSeats = codes "turned down: a house is one of one or more"
refusal_words NoHouse = codes "no house yet: begin with `house`"
refusal_words (NotHeld reason) = codes "turned down: " ++ not_held_words reason
