-- What a line of a script does to the desk, and what is told of it.
use Rattle.std.specs.Prelude.{◌≡◌, ℕ, Some, None, Ok, Err, Option, Result}
use Rattle.std.specs.Option.{option_map}
use Rattle.pools.specs.declared.amounts.Amounts.{Amounts}
use Rattle.pools.specs.Totals.{total}
use Rattle.commands.specs.declared.command.Command.{Command}
use Rattle.commands.specs.declared.command.Command.TheVariants as command
use Rattle.commands.specs.SiteStates.{SiteState}
use Rattle.houses.specs.declared.command.HouseCommand.{HouseCommand}
use Rattle.houses.specs.Watches.{HouseState, Replies, After}
use Rattle.site_scripts.specs.Lines.{TellsCommand}
use Rattle.scripts.specs.declared.mistake.Mistake.{Mistake}
use Rattle.scripts.specs.declared.request.Request.{Request}
use Rattle.scripts.specs.declared.request.Request.TheVariants as request
use Rattle.house_desk.specs.declared.outcome.HouseTold.{HouseTold}
use Rattle.house_desk.specs.declared.outcome.Told.{Told}
use Rattle.house_desk.specs.declared.outcome.Told.TheVariants.{Site, House}

-- the command about the site of a line that was understood and has one
abbrev pub site_command : {E : Type 0} → Result (Option Request) E → Option Command
site_command (Ok None) = None
site_command (Ok (Some (request.Site c))) = Some c
site_command (Ok (Some (request.House c))) = None
site_command (Err mistake) = None

-- the capacities that are known of a site
abbrev pub CapacityOf : Option SiteState → Option Amounts → Type 0
CapacityOf known capacity = option_map total capacity ≡ option_map (λ (k : SiteState). k.terms.capacity) known

-- a new site lets the house go, and no other command about the site touches it
abbrev pub house_left : Command → Option HouseState → Option HouseState
house_left (command.Site capacity) before = None
house_left _ before = before

-- what is told of a command about a house
pub record TellsHouse (known : Option SiteState) (before : Option HouseState) (c : HouseCommand) (t : HouseTold) : Type 0 where
  pub same_command : t.command ≡ c
  pub its_reply : (capacity : Option Amounts) × CapacityOf known capacity × Replies capacity before c t.reply

-- what a line's outcome must tell
abbrev pub Tells : ℕ → Option SiteState → Option SiteState → Option HouseState → Result (Option Request) Mistake → Result (Option Told) Mistake → Type 0
Tells places before after house (Ok None) outcome = outcome ≡ Ok None
Tells places before after house (Ok (Some (request.Site c))) (Ok (Some (Site t))) = TellsCommand places before after c t
Tells places before after house (Ok (Some (request.House c))) (Ok (Some (House t))) = TellsHouse before house c t
Tells places before after house (Ok (Some asked)) _ = ⊥
Tells places before after house (Err mistake) outcome = outcome ≡ Err mistake

-- what a command about a house made of it, by the reply that was told
abbrev pub HouseMoved : Option SiteState → Option HouseState → Option HouseState → HouseCommand → Result (Option Told) Mistake → Type 0
HouseMoved known before after c (Ok (Some (House t))) = (capacity : Option Amounts) × CapacityOf known capacity × After capacity before c t.reply after
HouseMoved known before after c _ = ⊥

-- what is followed after the line
abbrev pub HouseAfterLine : Option SiteState → Option HouseState → Option HouseState → Result (Option Request) Mistake → Result (Option Told) Mistake → Type 0
HouseAfterLine known before after (Ok None) outcome = after ≡ before
HouseAfterLine known before after (Ok (Some (request.Site c))) outcome = after ≡ house_left c before
HouseAfterLine known before after (Ok (Some (request.House c))) outcome = HouseMoved known before after c outcome
HouseAfterLine known before after (Err mistake) outcome = after ≡ before
