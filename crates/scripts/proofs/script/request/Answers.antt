use Rattle.std.proofs.Common.{◌≡◌, ℕ, List, sym, ◌∙◌, Bor}
use Rattle.site_scripts.specs.Words.{Words, Asks}
use Rattle.houses.specs.declared.command.HouseCommand.{HouseCommand}
use Rattle.scripts.specs.declared.request.Request.TheVariants.{House}
use Rattle.scripts.specs.Words.{name_of_house, SaysHouse, name_of, SaysRest}
use Rattle.scripts.proofs.script.request.Goals as goal

-- a command about a house that was read from the words after its name is asked for by that name and these words
asks_house : {name word : List ℕ} {rest : Words} {command : HouseCommand} → name ≡ word → (name_of_house command ≡ word) × ((d : Bor (List ℕ)) → SaysHouse d rest command) → Asks name_of SaysRest name rest (House command)
asks_house same said = record { by_name = same ∙ sym said.0; by_rest = said.1 }

pub returns-in_ok-follow-in-house : goal.returns-in_ok-follow-in-house
returns-in_ok-follow-in-house c = record { request_is_what_the_words_say = asks_house c.in-house.is c.in_ok-follow-in-house.ensures.command_is_what_the_words_say }

pub returns-in_ok-change-in-at : goal.returns-in_ok-change-in-at
returns-in_ok-change-in-at c = record { request_is_what_the_words_say = asks_house c.in-at.is c.in_ok-change-in-at.ensures.command_is_what_the_words_say }

pub returns-in_ok-show-in-show : goal.returns-in_ok-show-in-show
returns-in_ok-show-in-show c = record { request_is_what_the_words_say = asks_house c.in-show.is c.in_ok-show-in-show.ensures.command_is_what_the_words_say }

pub returns-in_ok-curve-in-curve : goal.returns-in_ok-curve-in-curve
returns-in_ok-curve-in-curve c = record { request_is_what_the_words_say = asks_house c.in-curve.is c.in_ok-curve-in-curve.ensures.command_is_what_the_words_say }
