-- What is known of the site that may be laid out at the desk.
use Rattle.std.specs.Prelude.{◌≡◌, true, Some, None, Option}
use Rattle.std.specs.Option.{ForSome, option_map}
use Rattle.pools.specs.declared.pool.Pool.{Ghosts}
use Rattle.pools.specs.Totals.{Total}
use Rattle.pools.specs.Terms.{Terms}

-- what is known of a site: its terms, and what is in use
pub record SiteState : Type 0 where
  pub terms : Terms
  pub used : Total

abbrev pub state_of : {S : Type 0} → Ghosts S → Option S → Option SiteState
state_of pool site = option_map (λ s. record { terms = pool.terms s; used = pool.used s }) site

-- what is in use at the site, if there is one, is permitted
abbrev pub UseIsPermitted : {S : Type 0} → Ghosts S → Option S → Type 0
UseIsPermitted pool site = ForSome site (λ s. (pool.terms s).permitted (pool.used s) ≡ true)

-- the same of what is known of it
abbrev pub PermittedUse : Option SiteState → Type 0
PermittedUse None = Unit {0}
PermittedUse (Some k) = k.terms.permitted k.used ≡ true
