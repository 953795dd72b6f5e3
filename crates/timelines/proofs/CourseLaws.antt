-- A course, cut at a tick into the stretches that have begun and those that have not.
use Rattle.std.proofs.Common.{append-nil, ◌≡◌, Bool, true, false, if◌then◌else◌, ℕ, ◌+◌, ◌-◌, ◌<◌, ◌≤◌, leb, List, [], ◌∷◌, ◌++◌, length, slice_index_or, ⊎_elim, sym, refl, ap, subst, ◌∙◌, arith}
use Rattle.std.specs.List.{All, AllWithin, slice_get, SameBelow, TailFrom}
use Rattle.std.specs.List.Sorted.{IsNonDecreasingBy, IsPartitionPoint}
use Rattle.std.specs.Option.{option_map_or}
use Rattle.std.proofs.lemmas.Bool.{cases_Bool, cond-true, cond-false, le-leb, lt-leb, leb-true, leb-false}
use Rattle.std.proofs.lemmas.List.Elements.{All-tail}
use Rattle.std.proofs.lemmas.List.Sorted.{IsNonDecreasingBy-push}
use Rattle.std.proofs.lemmas.Option.{slice_get-get_or}
use Rattle.measures.specs.declared.account.Account.{Account}
use Rattle.timelines.specs.declared.stretch.Stretch.{Stretch}
use Rattle.timelines.specs.Courses.{new_account, account_from, account_at, change_from, last_change, IsCut}

-- what f tells of the last stretch, and b where there is none
abbrev pub latest : {Y : Type 0} → (Stretch → Y) → Y → List Stretch → Y
latest f b [] = b
latest f b (x ∷ xs) = latest f (f x) xs

module _ {Y : Type 0} (f : Stretch → Y) where
  latest_after : (b : Y) (x : Stretch) (xs : List Stretch) → option_map_or f (slice_get (x ∷ xs) (length xs)) b ≡ latest f (f x) xs
  latest_after b x [] = refl
  latest_after b x (y ∷ ys) = latest_after b y ys

  -- it is what is read of the last item
  pub latest_read : (b : Y) (xs : List Stretch) → option_map_or f (slice_get xs (length xs - 1)) b ≡ latest f b xs
  latest_read b [] = refl
  latest_read b (x ∷ xs) =
      let last : length (x ∷ xs) - 1 ≡ length xs = omega arith in
      ap (λ n. option_map_or f (slice_get (x ∷ xs) n) b) last ∙ latest_after b x xs

-- the last change is at the tick of the last stretch
pub latest_change : (b : ℕ) (xs : List Stretch) → latest (λ s. s.from) b xs ≡ change_from b xs
unfolding change_from
latest_change b [] = refl
latest_change b (x ∷ xs) = latest_change x.from xs

-- so it is what stands at the last place
last_tick : (xs : List Stretch) (d : Stretch) → 0 < length xs → (slice_index_or xs (length xs - 1) d).from ≡ last_change xs
last_tick xs d some =
    let item = slice_get-get_or xs (length xs - 1) d (omega arith) in
    sym (ap (λ o. option_map_or (λ (s : Stretch). s.from) o 0) item) ∙ latest_read (λ s. s.from) 0 xs ∙ latest_change 0 xs

-- ticks that never fall: they still do not with one more stretch that is not before the last change
pub change_more : (xs ys : List Stretch) (y : Stretch) (pushed : Bool) → IsNonDecreasingBy (λ (s : Stretch). s.from) xs → last_change xs ≤ y.from → ys ≡ (if pushed then xs ++ y ∷ [] else xs) → IsNonDecreasingBy (λ (s : Stretch). s.from) ys
change_more xs ys y false sorted late is = subst (IsNonDecreasingBy (λ (s : Stretch). s.from)) (sym is) sorted
change_more xs ys y true sorted late is =
    subst (IsNonDecreasingBy (λ (s : Stretch). s.from)) (sym is) (IsNonDecreasingBy-push (λ (s : Stretch). s.from) xs y sorted (λ d some. let last = last_tick xs d some in omega arith))

-- by a tick that is not before the last change all have begun
all_begun : (xs : List Stretch) (t : ℕ) → IsNonDecreasingBy (λ (s : Stretch). s.from) xs → last_change xs ≤ t → All (λ (s : Stretch). s.from ≤ t) xs
all_begun xs t sorted late k d within =
    let last = last_tick xs d (omega arith) in
    let rises = sorted k (length xs - 1) d (omega arith) (omega arith) in
    omega arith

-- stretches that have begun, some that are cut at their partition point, and those that have not: so all are cut
pub point_of_all : (xs near ys : List Stretch) (b r i t : ℕ) → SameBelow xs near r → TailFrom near ys b → length near ≡ r → length ys + b ≡ r → AllWithin (λ (s : Stretch). s.from ≤ t) xs 0 b → AllWithin (λ (s : Stretch). t < s.from) xs r (length xs) → IsPartitionPoint (λ (s : Stretch). leb s.from t ≡ true) (λ (s : Stretch). leb s.from t ≡ false) ys i → i ≤ length ys → IsPartitionPoint (λ (s : Stretch). leb s.from t ≡ true) (λ (s : Stretch). leb s.from t ≡ false) xs (b + i)
point_of_all xs near ys b r i t front back short long begun later point within =
    let read : (k : ℕ) (d : Stretch) → b ≤ k → k < r → leb (slice_index_or ys (k - b) d).from t ≡ leb (slice_index_or xs k d).from t = (λ k d low high.
    let at : b + (k - b) ≡ k = omega arith in
    ap (λ (s : Stretch). leb s.from t) (back (k - b) d ∙ ap (λ n. slice_index_or near n d) at ∙ front k d high)) in (
      λ k d low high. ⊎_elim
          (λ test. let early = leb-true (k + 1) b test in le-leb (slice_index_or xs k d).from t (begun k d low (omega arith)))
          (λ test. let late = leb-false (k + 1) b test in sym (read k d (omega arith) (omega arith)) ∙ point.0 (k - b) d (omega arith) (omega arith))
          (cases_Bool (leb (k + 1) b)),
      λ k d low high. ⊎_elim
          (λ test. let early = leb-true (k + 1) r test in sym (read k d (omega arith) (omega arith)) ∙ point.1 (k - b) d (omega arith) (omega arith))
          (λ test. let late = leb-false (k + 1) r test in lt-leb (slice_index_or xs k d).from t (later k d (omega arith) high))
          (cases_Bool (leb (k + 1) r)),
    )

-- a course whose ticks never fall, cut at the partition point
pub cut_at : (xs ys zs : List Stretch) (i t : ℕ) → IsPartitionPoint (λ (s : Stretch). leb s.from t ≡ true) (λ (s : Stretch). leb s.from t ≡ false) xs i → (xs ≡ ys ++ zs) × SameBelow xs ys i × TailFrom xs zs i → length ys ≡ i → length zs + i ≡ length xs → IsCut xs ys zs t
cut_at xs ys zs i t point parts front back = record {
  whole = parts.0;
  begun = λ j d within.
      let same = ap (λ (s : Stretch). s.from) (parts.1 j d (omega arith)) in
      let passes = leb-true _ t (point.0 j d (omega arith) (omega arith)) in
      omega arith;
  not_begun = λ j d within.
      let same = ap (λ (s : Stretch). s.from) (parts.2 j d) in
      let fails = leb-false _ t (point.1 (i + j) d (omega arith) (omega arith)) in
      omega arith;
}

-- stretches that have begun leave the last account in force
account_after : (here : Account) (ys zs : List Stretch) (k : ℕ) → All (λ (s : Stretch). s.from ≤ k) ys → account_from here (ys ++ zs) k ≡ account_from (latest (λ s. s.account) here ys) zs k
unfolding account_from
account_after here [] zs k begun = refl
account_after here (y ∷ ys) zs k begun =
    cond-true (leb y.from k) _ _ (le-leb y.from k (begun 0 y (omega arith)))
    ∙ account_after y.account ys zs k (All-tail (λ (s : Stretch). s.from ≤ k) y ys begun)

-- the last tick before the first of the stretches, and m where there is none
abbrev pub before_first : ℕ → List Stretch → ℕ
before_first m zs = option_map_or (λ (s : Stretch). s.from - 1) (slice_get zs 0) m

module _ (t m : ℕ) where
  -- stretches that have not begun leave it in force
  account_before : (here : Account) (zs : List Stretch) (k : ℕ) → All (λ (s : Stretch). t < s.from) zs → k ≤ before_first m zs → account_from here zs k ≡ here
  unfolding account_from
  account_before here [] k later within = refl
  account_before here (z ∷ zs) k later within = let after = later 0 z (omega arith) in cond-false (leb z.from k) _ _ (lt-leb z.from k (omega arith))

  pub reaches_first : (zs : List Stretch) → t ≤ m → All (λ (s : Stretch). t < s.from) zs → t ≤ before_first m zs
  reaches_first [] most later = most
  reaches_first (z ∷ zs) most later = let after = later 0 z (omega arith) in omega arith

  -- from the tick on, and until the next stretch begins, the last that has begun is in force
  pub account_cut : (xs ys zs : List Stretch) → IsCut xs ys zs t → (k : ℕ) → t ≤ k → k ≤ before_first m zs → account_at xs k ≡ option_map_or (λ (s : Stretch). s.account) (slice_get ys (length ys - 1)) new_account
  account_cut xs ys zs cut k after within =
      ap (λ l. account_at l k) cut.whole
      ∙ account_after new_account ys zs k (λ j d short. let begun = cut.begun j d short in omega arith)
      ∙ account_before _ zs k cut.not_begun within
      ∙ sym (latest_read (λ (s : Stretch). s.account) new_account ys)

-- from the last change on, what it changed to is in force
pub account_last : (xs : List Stretch) (t : ℕ) → IsNonDecreasingBy (λ (s : Stretch). s.from) xs → last_change xs ≤ t → account_at xs t ≡ option_map_or (λ (s : Stretch). s.account) (slice_get xs (length xs - 1)) new_account
account_last xs t sorted late =
    let cut : IsCut xs xs [] t = record { whole = sym (append-nil xs); begun = all_begun xs t sorted late; not_begun = λ j d short. omega arith } in
    account_cut t t xs xs [] cut t (omega arith) (omega arith)
