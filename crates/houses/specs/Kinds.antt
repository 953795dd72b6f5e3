-- The words for the measures.
use Rattle.std.specs.Prelude.{◌≡◌, ◌≢◌, List, ℕ, Ok, Err, codes, Result}
use Rattle.houses.specs.declared.kind.Kind.{Kind}
use Rattle.houses.specs.declared.kind.Kind.TheVariants.{Stateful, Plain}

abbrev pub kind_word : Kind → List ℕ
kind_word Stateful = codes "stateful"
kind_word Plain = codes "plain"

-- what is read of a word: the measure that it names, and an error where it names none
abbrev pub Names : {E : Type 0} → List ℕ → Result Kind E → Type 0
Names word (Ok kind) = word ≡ kind_word kind
Names word (Err e) = (kind : Kind) → word ≢ kind_word kind
