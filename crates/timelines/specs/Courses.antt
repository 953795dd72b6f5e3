-- The course of a house: stretches, in the order of their ticks, each with the account that is in force from its tick on.
use Rattle.std.specs.Prelude.{◌≡◌, ℕ, ◌<◌, ◌≤◌, cond, List, [], ◌∷◌, ◌++◌, nat_le}
use Rattle.std.specs.List.{All}
use Rattle.pools.specs.Totals.{nothing}
use Rattle.measures.specs.declared.account.Account.{Account}
use Rattle.measures.specs.Holdings.{holding_of}
use Rattle.measures.specs.Records.{new_past}
use Rattle.timelines.specs.declared.stretch.Stretch.{Stretch}

-- the account of a house that holds nothing and has no past
abbrev pub new_account : Account
new_account = record { past = new_past; holding = holding_of nothing }

-- the account at a tick: that of the last stretch that has begun, and `before` where none has
unfoldable pub account_from : Account → List Stretch → ℕ → Account
account_from before [] t = before
account_from before (x ∷ xs) t = cond (nat_le x.from t) (account_from x.account xs t) before

abbrev pub account_at : List Stretch → ℕ → Account
account_at xs t = account_from new_account xs t

-- the tick at which the last stretch began, 0 where there is none
unfoldable pub change_from : ℕ → List Stretch → ℕ
change_from before [] = before
change_from before (x ∷ xs) = change_from x.from xs

abbrev pub last_change : List Stretch → ℕ
last_change xs = change_from 0 xs

-- of the stretches xs, ys have begun by the tick t, and zs have not
pub record IsCut (xs ys zs : List Stretch) (t : ℕ) : Type 0 where
  pub whole : xs ≡ ys ++ zs
  pub begun : All (λ (s : Stretch). s.from ≤ t) ys
  pub not_begun : All (λ (s : Stretch). t < s.from) zs
