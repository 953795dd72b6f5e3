use Rattle.std.proofs.Common.{◌≡◌, true, ◌∙◌, lit<, rules}
use Rattle.std.proofs.lemmas.Bool.{both_ways, eq-eqb}
use Rattle.std.specs.Str.{all_ascii_digits}
use Rattle.std.proofs.lemmas.Str.Parse.{IsNumeralModel, numerals_by_fold, parse_plain}
use Rattle.site_scripts.specs.Numbers.{read_on, decimal_value}
use Rattle.site_scripts.proofs.numbers.number.Goals as goal

-- the digits of a script write numbers as the library reads them
own : IsNumeralModel (λ ds. all_ascii_digits ds ≡ true) decimal_value
own = numerals_by_fold _ (search rules) read_on (search rules)

pub returns : goal.returns
returns c =
    let begins_with_plus = c.starts_with.ensures.byte (lit< tt) (lit< tt) (λ w o finds. finds) in
    let plain = parse_plain own 64 c.args.word.now c.parse.result c.parse.ensures.value.0 (λ plus. both_ways _ c.if-starts_with.false (begins_with_plus ∙ eq-eqb _ _ plus)) in
    search rules
