-- The command line as clap's definition of a simple command sees it.
use Rattle.std.specs.Prelude.{◌≤◌, ℕ, List, [], ◌∷◌, codes, pos, Some, true, unwrap_or}
use Rattle.std.specs.Str.Parse.{IsNumeral, digits_value, without_leading_plus}
use Rattle.clap.specs.Words.{App, Row, Rule, Text, first_of, new_app, new_rule, one_of, with_rule}
use Rattle.clap.specs.declared.builder.action.ArgAction.TheVariants.{Set}
use Rattle.clap.specs.declared.builder.value_parser.ValueParser.TheVariants as vp

-- ---- the command

-- a required word at a place of its own
abbrev pub place : Text → Rule
place name = record (new_rule name) { required = true; action = Some Set }

-- an option of a text, with what it is where it isn't given
abbrev pub text_option : Text → Text → Rule
text_option name standard =
    record (new_rule name) { long = Some name; action = Some Set; defaults = standard ∷ [] }

-- an option of a number within limits, with what it is where it isn't given
abbrev pub number_option : Text → ℕ → ℕ → Text → Rule
number_option name low high standard =
    record (text_option name standard) { parser = Some (vp.Signed (pos low) (pos high)) }

-- the command
unfoldable pub clearance : App
clearance =
    with_rule (with_rule (with_rule (with_rule (with_rule (with_rule (with_rule (new_app (codes "clearance"))
    (place (codes "job"))) (place (codes "folder")))
    (number_option (codes "steps") 0 100 (codes "20")))
    (number_option (codes "step") 1 10 (codes "1")))
    (number_option (codes "nodes") 0 10000000 (codes "100000")))
    (text_option (codes "cert") (codes "-")))
    (number_option (codes "seed") 0 999999999 (codes "1"))

-- the words behind the program's name
abbrev pub line_of : List Text → List Text
line_of words = codes "clearance" ∷ words

-- ---- the matches

-- the value of an argument, as it was written
abbrev pub text_in : Text → List Row → Text
text_in name rows = unwrap_or (first_of name rows) []

-- the digits of a number's value, without a sign in front. Of words without a fault they are digits:
-- `HasNumbers`, below.
abbrev pub digits_in : Text → List Row → Text
digits_in name rows = without_leading_plus (unwrap_or (one_of name rows) [])

-- the number that they write
abbrev pub number_in : Text → List Row → ℕ
number_in name rows = digits_value 10 (digits_in name rows)

-- the value is a number within these limits
pub record IsNumberIn (low high : ℕ) (name : Text) (rows : List Row) : Type 0 where
  pub numeral : IsNumeral 10 (digits_in name rows)
  pub least : low ≤ number_in name rows
  pub most : number_in name rows ≤ high

-- each of the four numbers is within its limits
pub record HasNumbers (rows : List Row) : Type 0 where
  pub steps : IsNumberIn 0 100 (codes "steps") rows
  pub step : IsNumberIn 1 10 (codes "step") rows
  pub nodes : IsNumberIn 0 10000000 (codes "nodes") rows
  pub seed : IsNumberIn 0 999999999 (codes "seed") rows
