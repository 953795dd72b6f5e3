-- Sessions are told apart by their sites.
use Rattle.std.proofs.Common.{◌≡◌}
use Rattle.std.proofs.Props.{props}
use mathlib.Core.HLevel.{is_prop→PathP}
use Rattle.pools.specs.declared.pool.Pool.{Ghosts}
use Rattle.commands.specs.declared.stack.Stack
use Rattle.commands.specs.declared.session.Session.{Session}
use Rattle.commands.specs.SiteStates.{UseIsPermitted}

pub same_session : {S : Type 0} {stack : Stack.Ghosts S} {pool : Ghosts S} (a b : Session S stack pool) → a.site ≡ b.site → a ≡ b
same_session {pool = pool} a b e j = record {
  site = e j;
  use_is_permitted = is_prop→PathP (λ k. UseIsPermitted pool (e k)) (λ k. Prim.hlevel props) a.use_is_permitted b.use_is_permitted j;
}
