-- What the words of a line say.
use Rattle.std.specs.Prelude.{◌≡◌, ℕ, ◌-◌, ◌<◌, List, length, take, drop, Some, None, Ok, Err, codes, Option, Result, slice_index_or}
use Rattle.std.specs.Borrow.{Bor}
use Rattle.pools.specs.Totals.{total, of_array}
use Rattle.commands.specs.declared.layer.NewLayer.TheVariants.{Reserve, LoadLimit}
use Rattle.pools.specs.declared.load_request.LoadRequest.{LoadRequest}
use Rattle.commands.specs.declared.command.Command.{Command}
use Rattle.commands.specs.declared.command.Command.TheVariants.{Site, Lay, Take, GiveBack, Fits, Used}
use Rattle.site_scripts.specs.Numbers.{decimal_value, numbers}

-- a word is a reference to its bytes; d only stands for a word that is not there
abbrev pub Words : Type 0
Words = List (Bor (List ℕ))

abbrev pub word_at : Bor (List ℕ) → Words → ℕ → List ℕ
word_at d words i = (slice_index_or words i d).now

-- the words after the first n
abbrev pub words_after : ℕ → Words → Words
words_after n words = take (length words - n) (drop n words)

-- the limit, the word `weights` and the weights
pub record SaysLoad (d : Bor (List ℕ)) (words : Words) (load : LoadRequest) : Type 0 where
  pub the_limit : load.limit ≡ decimal_value (word_at d words 0)
  pub the_word : word_at d words 1 ≡ codes "weights"
  pub the_weights : of_array load.weights ≡ numbers d (words_after 2 words)

-- what the words after the name of a command about the site say
abbrev pub SaysSite : Bor (List ℕ) → Words → Command → Type 0
SaysSite d words (Site capacity) = total capacity ≡ numbers d words
SaysSite d words (Lay (Reserve held)) = total held ≡ numbers d words
SaysSite d words (Lay (LoadLimit load)) = SaysLoad d words load
SaysSite d words (Take demand) = total demand ≡ numbers d words
SaysSite d words (GiveBack demand) = total demand ≡ numbers d words
SaysSite d words (Fits demand) = total demand ≡ numbers d words
SaysSite d words Used = length words ≡ 0

-- the word that begins it
abbrev pub name_of_site : Command → List ℕ
name_of_site (Site capacity) = codes "site"
name_of_site (Lay (Reserve held)) = codes "reserve"
name_of_site (Lay (LoadLimit load)) = codes "limit"
name_of_site (Take demand) = codes "take"
name_of_site (GiveBack demand) = codes "give"
name_of_site (Fits demand) = codes "fits"
name_of_site Used = codes "used"

-- Scripts differ in what can be asked. Each says by which word a thing is asked for, and what the words after it say.
abbrev pub Rest : Type 0 → Type 1
Rest A = Bor (List ℕ) → Words → A → Type 0

-- a name and the words after it ask for something
pub record Asks {A : Type 0} (name_of : A → List ℕ) (says_rest : Rest A) (name : List ℕ) (rest : Words) (asked : A) : Type 0 where
  pub by_name : name ≡ name_of asked
  pub by_rest : (d : Bor (List ℕ)) → says_rest d rest asked

-- the words of a whole line ask for something
pub record Says {A : Type 0} (name_of : A → List ℕ) (says_rest : Rest A) (d : Bor (List ℕ)) (words : Words) (asked : A) : Type 0 where
  pub its_name : word_at d words 0 ≡ name_of asked
  pub its_rest : says_rest d (words_after 1 words) asked

-- what is read is what the words say, and it is nothing where there are no words
abbrev pub Reads : {A E : Type 0} → (A → List ℕ) → Rest A → Words → Result (Option A) E → Type 0
Reads name_of says_rest words (Ok None) = length words ≡ 0
Reads name_of says_rest words (Ok (Some asked)) = (0 < length words) × ((d : Bor (List ℕ)) → Says name_of says_rest d words asked)
Reads name_of says_rest words (Err mistake) = Unit {0}
