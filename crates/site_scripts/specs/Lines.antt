-- What a command of a line does to the site, and what is told of it.
use Rattle.std.specs.Prelude.{◌≡◌, ℕ, Some, None, Ok, Err, Option, Result}
use Rattle.pools.specs.Totals.{total}
use Rattle.commands.specs.declared.command.Command.{Command}
use Rattle.commands.specs.SiteStates.{SiteState}
use Rattle.commands.specs.Sessions.{reply_to, known_after, used_now, capacity_now}
use Rattle.site_scripts.specs.declared.told.Told.{Told}

-- what is known of the site after a line: as before where it has no command about the site, and else by the command
abbrev pub known_after_line : ℕ → Option SiteState → Option Command → Option SiteState
known_after_line places k None = k
known_after_line places k (Some command) = known_after k command (reply_to places k command)

-- a command is told with its reply and with how the site stands after it
pub record TellsCommand (places : ℕ) (before after : Option SiteState) (command : Command) (t : Told) : Type 0 where
  pub same_command : t.command ≡ command
  pub its_reply : t.reply ≡ reply_to places before command
  pub used_after : total t.status.used ≡ used_now after
  pub capacity_after : total t.status.capacity ≡ capacity_now after

-- what is said of a line is of the kind of its outcome: nothing of a blank line, a text where a command was carried out,
-- and an error where the line was not understood
abbrev pub SaidOf : {A E S : Type 0} → Result (Option A) E → Result (Option S) S → Type 0
SaidOf (Ok None) (Ok None) = Unit {0}
SaidOf (Ok (Some told)) (Ok (Some text)) = Unit {0}
SaidOf (Err mistake) (Err text) = Unit {0}
SaidOf _ _ = ⊥
