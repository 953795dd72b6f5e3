-- A change of what a house holds.
use Rattle.std.specs.Prelude.{◌≡◌, ℕ, ◌<◌, ◌≤◌, List, ◌++◌, codes, Ok, Err, Result}
use Rattle.std.specs.Fmt.{decimal}
use Rattle.measures.specs.declared.account.Account.{Account}
use Rattle.measures.specs.declared.holding.Holding.{Holding}
use Rattle.measures.specs.declared.past_record.PastRecord.{PastRecord}
use Rattle.measures.specs.Clock.{on_clock}
use Rattle.timelines.specs.declared.stretch.Stretch.{Stretch}
use Rattle.timelines.specs.declared.timeline.NotHeld.{NotHeld}
use Rattle.timelines.specs.declared.timeline.NotHeld.TheVariants.{Earlier, NoMemory}
use Rattle.timelines.specs.Courses.{account_at}

-- from the tick on this is held, and the record is brought to the tick with what was held before
abbrev pub change_at : (Account → ℕ → PastRecord) → List Stretch → ℕ → Holding → Stretch
change_at brought xs t h = record {
  from = on_clock t;
  account = record { past = brought (account_at xs (on_clock t)) (on_clock t); holding = h };
}

-- a change is turned down exactly when it is earlier than the last one; only memory may be wanting besides
abbrev pub Judged : ℕ → ℕ → Result (Unit {0}) NotHeld → Type 0
Judged last t (Ok _) = last ≤ t
Judged last t (Err (Earlier n)) = (t < last) × (n ≡ last)
Judged last t (Err NoMemory) = last ≤ t

-- why a change was not noted, in words
abbrev pub not_held_words : NotHeld → List ℕ
not_held_words (Earlier last) = codes "the last change is at tick " ++ decimal last
not_held_words NoMemory = codes "no memory is left"
