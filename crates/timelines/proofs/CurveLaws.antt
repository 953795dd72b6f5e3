-- Columns that are added one by one.
use Rattle.std.proofs.Common.{◌≡◌, ℕ, ◌+◌, ◌<◌, ◌≤◌, ltb, List, [], ◌∷◌, ◌++◌, length, sym, refl, subst, ⊎_elim, arith, length-append}
use Rattle.std.specs.List.{All}
use Rattle.std.proofs.lemmas.List.{get_or_append_left, get_or_push}
use Rattle.std.proofs.lemmas.List.Elements.{All-push}
use Rattle.std.proofs.lemmas.Bool.{cases_Bool, ltb-true, ltb-false}
use Rattle.measures.specs.declared.account.Account.{Account}
use Rattle.timelines.specs.declared.stretch.Column.{Column}
use Rattle.timelines.specs.Views.{Inside, Has, Covered, NoWider, IsTight}

module _ (level : ℕ → ℕ) (xs : List Column) (x : Column) where
  -- the ticks before the new column were covered, and it has the others
  covered_more : (first : ℕ) → ((k : ℕ) → first ≤ k → k < x.span.first → Covered level xs k) → ((k : ℕ) → x.span.first ≤ k → k ≤ x.span.last → Inside (level k) x.range) → (k : ℕ) → first ≤ k → k < x.span.last + 1 → Covered level (xs ++ x ∷ []) k
  covered_more first old new k h l =
      let more = length-append xs (x ∷ []) in
      ⊎_elim
      (λ before.
      let (j, within, has) = old k h (ltb-true k x.span.first before) in
      (j, omega arith, λ d. subst (Has level k) (sym (get_or_append_left xs (x ∷ []) d j within)) (has d)))
      (λ after.
      let late = ltb-false k x.span.first after in
      (length xs, omega arith, λ d. subst (Has level k) (sym (get_or_push xs x d (length xs) refl)) (record { not_before = late; not_after = omega arith; bounded = new k late (omega arith) })))
      (cases_Bool (ltb k x.span.first))

module _ (level : ℕ → ℕ) (low high : Account → ℕ → ℕ → ℕ) (account : ℕ → Account) (first last : ℕ) where
  -- columns of a span that together have its ticks before the next one
  pub record IsDrawn (xs : List Column) (next : ℕ) : Type 0 where
    pub covered : (k : ℕ) → first ≤ k → k < next → Covered level xs k
    pub tight : All (IsTight low high account first last) xs

  pub drawn_more : (xs ys : List Column) (x : Column) (next : ℕ) → IsDrawn xs x.span.first → first ≤ x.span.first → x.span.first ≤ x.span.last → x.span.last ≤ last → ((k : ℕ) → x.span.first ≤ k → k ≤ x.span.last → Inside (level k) x.range) → NoWider low high account x.span.first x.span.last x.range → ys ≡ xs ++ x ∷ [] → next ≤ x.span.last + 1 → IsDrawn ys next
  drawn_more xs ys x next old after some within inside tight is short =
      let all : IsDrawn (xs ++ x ∷ []) next = record {
        covered = λ k h l. covered_more level xs x first old.covered inside k h (omega arith);
        tight = All-push (IsTight low high account first last) xs x old.tight (record { not_before = after; has_a_tick = some; not_after = within; no_wider = tight });
      } in
      subst (λ l. IsDrawn l next) (sym is) all
