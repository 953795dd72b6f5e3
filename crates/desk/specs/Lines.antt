-- What is told of a line of a script.
use Rattle.std.specs.Prelude.{◌≡◌, ℕ, Some, None, Ok, Err, Option, Result}
use Rattle.commands.specs.declared.command.Command.{Command}
use Rattle.commands.specs.SiteStates.{SiteState}
use Rattle.site_scripts.specs.declared.mistake.Mistake.{Mistake}
use Rattle.site_scripts.specs.declared.told.Told.{Told}
use Rattle.site_scripts.specs.Lines.{TellsCommand}

-- the command of a line that was understood and is not blank
abbrev pub commanded : {E : Type 0} → Result (Option Command) E → Option Command
commanded (Ok command) = command
commanded (Err mistake) = None

-- what a line's outcome must tell
abbrev pub Tells : ℕ → Option SiteState → Option SiteState → Result (Option Command) Mistake → Result (Option Told) Mistake → Type 0
Tells places before after (Ok None) outcome = outcome ≡ Ok None
Tells places before after (Ok (Some command)) (Ok (Some told)) = TellsCommand places before after command told
Tells places before after (Ok (Some command)) _ = ⊥
Tells places before after (Err mistake) outcome = outcome ≡ Err mistake
