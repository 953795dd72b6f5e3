-- Bounds that a measure tells, carried from turn to turn.
use Rattle.std.proofs.Common.{◌≡◌, ℕ, ◌≤◌, ◌⊎◌, inl, inr, min, max, sym, ap, ◌∙◌, subst, ⊎_elim, arith}
use Rattle.std.proofs.lemmas.Bool.{cases_lt}
use Rattle.measures.specs.declared.account.Account.{Account}
use Rattle.timelines.specs.declared.stretch.LevelRange.{LevelRange}
use Rattle.timelines.specs.Views.{ToldWithin, NoWider}

min_either : (a b n : ℕ) → n ≡ min a b → (n ≡ a) ⊎ (n ≡ b)
min_either a b n is = ⊎_elim (λ h. inl (omega (arith, is, h))) (λ h. inr (omega (arith, is, h))) (cases_lt a b)

max_either : (a b n : ℕ) → n ≡ max a b → (n ≡ a) ⊎ (n ≡ b)
max_either a b n is = ⊎_elim (λ h. inr (omega (arith, is, h))) (λ h. inl (omega (arith, is, h))) (cases_lt a b)

module _ (bound : Account → ℕ → ℕ → ℕ) (account : ℕ → Account) (first : ℕ) where
  -- a longer span has what a shorter one had
  told_longer : (last later n : ℕ) → last ≤ later → ToldWithin bound account first last n → ToldWithin bound account first later n
  told_longer last later n h t = record { begin = t.begin; end = t.end; not_before = t.not_before; has_a_tick = t.has_a_tick; not_after = omega arith; in_force = t.in_force; told = t.told }

  -- what is told of the account that is in force from one tick of the span to its last
  pub told_here : (here : Account) (begin last n : ℕ) → first ≤ begin → begin ≤ last → here ≡ account begin → ((k : ℕ) → begin ≤ k → k ≤ last → account k ≡ here) → n ≡ bound here begin last → ToldWithin bound account first last n
  told_here here begin last n after some is stays tells = record {
    begin = begin;
    end = last;
    not_before = after;
    has_a_tick = some;
    not_after = omega arith;
    in_force = λ k h l. stays k h l ∙ is;
    told = tells ∙ ap (λ (a : Account). bound a begin last) is;
  }

  -- of two bounds that are told the one or the other is
  pub told_either : (last later a b n : ℕ) → last ≤ later → ToldWithin bound account first last a → ToldWithin bound account first later b → (n ≡ a) ⊎ (n ≡ b) → ToldWithin bound account first later n
  told_either last later a b n longer old new =
      ⊎_elim
      (λ is. subst (ToldWithin bound account first later) (sym is) (told_longer last later a longer old))
      (λ is. subst (ToldWithin bound account first later) (sym is) new)

-- a range over a span, and one over the ticks that follow, joined
pub no_wider_joined : (low high : Account → ℕ → ℕ → ℕ) (account : ℕ → Account) (first last later : ℕ) (r s t : LevelRange) → last ≤ later → NoWider low high account first last r → NoWider low high account first later s → t.lowest ≡ min r.lowest s.lowest → t.highest ≡ max r.highest s.highest → NoWider low high account first later t
no_wider_joined low high account first last later r s t longer old new smaller larger = record {
  low_is_told = told_either low account first last later r.lowest s.lowest t.lowest longer old.low_is_told new.low_is_told (min_either r.lowest s.lowest t.lowest smaller);
  high_is_told = told_either high account first last later r.highest s.highest t.highest longer old.high_is_told new.high_is_told (max_either r.highest s.highest t.highest larger);
}
