-- The desk by what it knows of its site, and what each command does.
use Rattle.std.specs.Prelude.{◌≡◌, ℕ, ◌-◌, Bool, true, false, cond, Some, None, Ok, Err, Option, Result}
use Rattle.std.specs.Option.{option_map, unwrap_or}
use Rattle.pools.specs.declared.fault.PoolFault.{PoolFault}
use Rattle.pools.specs.declared.fault.PoolFault.TheVariants.{MoreThanUsed, DoesNotFit}
use Rattle.pools.specs.declared.pool.Pool.{Ghosts}
use Rattle.pools.specs.Totals.{Total, total, nothing, plus, minus, is_within}
use Rattle.pools.specs.Terms.{admits, bench_terms}
use Rattle.commands.specs.declared.layer.NewLayer.{NewLayer}
use Rattle.commands.specs.declared.layer.Obstacle.{Obstacle}
use Rattle.commands.specs.declared.command.Command.{Command}
use Rattle.commands.specs.declared.command.Command.TheVariants.{Site, Lay, Take, GiveBack, Fits as AskFits, Used}
use Rattle.commands.specs.declared.command.Answer.{Answer}
use Rattle.commands.specs.declared.command.Answer.TheVariants.{SiteLaidOut, LayerLaid, Taken, GivenBack, UsedTotal, Fits}
use Rattle.commands.specs.declared.command.Refusal.{Refusal}
use Rattle.commands.specs.declared.command.Refusal.TheVariants.{NoSite, Refused}
use Rattle.commands.specs.declared.session.Session.{Session}
use Rattle.commands.specs.declared.stack.Stack
use Rattle.commands.specs.SiteStates.{SiteState, state_of}
use Rattle.commands.specs.Stacks.{laid, lay_obstacle, refusal_of}

abbrev pub known : {S : Type 0} {stack : Stack.Ghosts S} → (pool : Ghosts S) → Session S stack pool → Option SiteState
known pool d = state_of pool d.site

-- what is in use and the capacity, zero where there is no site
abbrev pub used_now : Option SiteState → Total
used_now None = nothing
used_now (Some k) = k.used

abbrev pub capacity_now : Option SiteState → Total
capacity_now None = nothing
capacity_now (Some k) = k.terms.capacity

-- how many layers can still be laid over the site
abbrev pub free_places : {S : Type 0} {stack : Stack.Ghosts S} {pool : Ghosts S} → (S → ℕ) → Session S stack pool → ℕ
free_places places d = unwrap_or (option_map places d.site) 0

-- the reply to a layer, by what stands in its way
abbrev pub lay_reply : NewLayer → Option Obstacle → Result Answer Refusal
lay_reply layer None = Ok (LayerLaid layer)
lay_reply layer (Some obstacle) = Err (refusal_of obstacle)

-- the reply to a command that the pool turns down exactly when its test fails
abbrev pub pool_reply : Bool → Answer → PoolFault → Result Answer Refusal
pool_reply passes answer fault = cond passes (Ok answer) (Err (Refused fault))

-- the reply to a command where there is a site, and where there is none
abbrev pub site_reply : ℕ → SiteState → Command → Result Answer Refusal
site_reply places k (Site capacity) = Ok SiteLaidOut
site_reply places k (Lay layer) = lay_reply layer (lay_obstacle places k.terms k.used layer)
site_reply places k (Take demand) = pool_reply (admits k.terms k.used (total demand)) Taken DoesNotFit
site_reply places k (GiveBack demand) = pool_reply (is_within (total demand) k.used) GivenBack MoreThanUsed
site_reply places k (AskFits demand) = Ok (Fits (admits k.terms k.used (total demand)))
site_reply places k Used = Ok UsedTotal

abbrev pub siteless_reply : Command → Result Answer Refusal
siteless_reply (Site capacity) = Ok SiteLaidOut
siteless_reply _ = Err NoSite

abbrev pub reply_to : ℕ → Option SiteState → Command → Result Answer Refusal
reply_to places None command = siteless_reply command
reply_to places (Some k) command = site_reply places k command

-- whether a reply tells that the site is left as it was: a question was answered, or the command was turned down
abbrev pub leaves : Result Answer Refusal → Bool
leaves (Err refusal) = true
leaves (Ok UsedTotal) = true
leaves (Ok (Fits fits)) = true
leaves (Ok _) = false

-- what a command makes of the site where it is carried out
abbrev pub moved : Option SiteState → Command → Option SiteState
moved k (Site capacity) = Some (record { terms = bench_terms (total capacity); used = nothing })
moved k (Lay layer) = option_map (λ (s : SiteState). record { terms = laid s.terms layer; used = nothing }) k
moved k (Take demand) = option_map (λ (s : SiteState). record { terms = s.terms; used = plus s.used (total demand) }) k
moved k (GiveBack demand) = option_map (λ (s : SiteState). record { terms = s.terms; used = minus s.used (total demand) }) k
moved k _ = k

abbrev pub known_after : Option SiteState → Command → Result Answer Refusal → Option SiteState
known_after k command reply = cond (leaves reply) k (moved k command)

-- a new site has every place free, and a layer that is laid takes one
abbrev pub PlacesAfter : ℕ → ℕ → ℕ → Command → Result Answer Refusal → Type 0
PlacesAfter depth before after (Site capacity) reply = after ≡ depth
PlacesAfter depth before after (Lay layer) reply = after ≡ cond (leaves reply) before (before - 1)
PlacesAfter depth before after (Take demand) reply = Unit {0}
PlacesAfter depth before after (GiveBack demand) reply = Unit {0}
PlacesAfter depth before after _ reply = after ≡ before
