use Rattle.std.proofs.Common.{ℕ, ◌<◌, List, length, ap, ◌∙◌, Bor}
use Rattle.std.proofs.lemmas.List.{get_or_default}
use Rattle.site_scripts.specs.Words.{Rest, Words, word_at, words_after, Asks, Says}

-- What the first word and the words after it ask for, the whole line asks for. Where there is a word, it does not matter
-- what stands for a word that is not there.
pub says_whole : {A : Type 0} {name_of : A → List ℕ} {says_rest : Rest A} (words : Words) (e : Bor (List ℕ)) (asked : A) → 0 < length words → Asks name_of says_rest (word_at e words 0) (words_after 1 words) asked → (d : Bor (List ℕ)) → Says name_of says_rest d words asked
says_whole words e asked some asks d = record {
  its_name = ap (λ (w : Bor (List ℕ)). w.now) (get_or_default words 0 d e some) ∙ asks.by_name;
  its_rest = asks.by_rest d;
}
