-- What is shown of a house.
use Rattle.std.specs.Prelude.{◌≡◌, ℕ, ◌<◌, ◌≤◌, List, [], ◌∷◌, length, map, slice_index_or}
use Rattle.measures.specs.declared.account.Account.{Account}
use Rattle.measures.specs.declared.site.Site.{Site}
use Rattle.measures.specs.Sites.{share_in, part_due, excess_in, commitment_in}
use Rattle.timelines.specs.declared.stretch.SupplyView.{SupplyView}
use Rattle.timelines.specs.declared.stretch.Snapshot.{Snapshot}
use Rattle.timelines.specs.declared.stretch.LevelRange.{LevelRange}
use Rattle.timelines.specs.declared.stretch.Column.{Column}

-- the numbers of an account at a site and a tick, in one supply
abbrev pub view_in : Site → Account → ℕ → ℕ → SupplyView
view_in g a t s = record {
  share = share_in g a.holding s;
  excess = excess_in g (part_due g a) a.holding s;
  commitment = commitment_in g (part_due g a) a t s;
}

-- those numbers supply by supply, and its level by a measure
pub record Shows (g : Site) (level : Account → ℕ → ℕ) (a : Account) (t : ℕ) (v : Snapshot) : Type 0 where
  pub its_supplies : v.supplies ≡ map (view_in g a t) (0 ∷ 1 ∷ 2 ∷ 3 ∷ [])
  pub its_level : v.level ≡ level a t

pub record Inside (level : ℕ) (r : LevelRange) : Type 0 where
  pub not_lower : r.lowest ≤ level
  pub not_higher : level ≤ r.highest

-- a bound that a measure tells of an account over ticks of a span through which the account stays in force
pub record ToldWithin (bound : Account → ℕ → ℕ → ℕ) (account : ℕ → Account) (first last n : ℕ) : Type 0 where
  pub begin : ℕ
  pub end : ℕ
  pub not_before : first ≤ begin
  pub has_a_tick : begin ≤ end
  pub not_after : end ≤ last
  pub in_force : (k : ℕ) → begin ≤ k → k ≤ end → account k ≡ account begin
  pub told : n ≡ bound (account begin) begin end

-- a range is no wider than the measure makes it: each of its bounds is one that the measure tells within the span
pub record NoWider (lowest highest : Account → ℕ → ℕ → ℕ) (account : ℕ → Account) (first last : ℕ) (r : LevelRange) : Type 0 where
  pub low_is_told : ToldWithin lowest account first last r.lowest
  pub high_is_told : ToldWithin highest account first last r.highest

-- a tick that a column has, with the level there within the column's bounds
pub record Has (level : ℕ → ℕ) (k : ℕ) (x : Column) : Type 0 where
  pub not_before : x.span.first ≤ k
  pub not_after : k ≤ x.span.last
  pub bounded : Inside (level k) x.range

-- a column of a span, with ticks of it and bounds that are no wider than the measure makes them
pub record IsTight (lowest highest : Account → ℕ → ℕ → ℕ) (account : ℕ → Account) (first last : ℕ) (x : Column) : Type 0 where
  pub not_before : first ≤ x.span.first
  pub has_a_tick : x.span.first ≤ x.span.last
  pub not_after : x.span.last ≤ last
  pub no_wider : NoWider lowest highest account x.span.first x.span.last x.range

-- some column has the tick
abbrev pub Covered : (ℕ → ℕ) → List Column → ℕ → Type 0
Covered level xs k = (j : ℕ) × (j < length xs) × ((d : Column) → Has level k (slice_index_or xs j d))
