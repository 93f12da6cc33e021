-- The notes: one line for each cause of a status other than success.
use Rattle.std.specs.Prelude.{ℕ, ℤ, List, [], ◌∷◌, ◌++◌, codes, decimal}
use Rattle.std.specs.Fmt.{signed_decimal}
use Rattle.clr_text.specs.declared.file.Why.{Why}
use Rattle.clr_text.specs.declared.file.Why.TheVariants.{Header, Fields, Number, Money, Name, Range, Order, Unknown, Repeat, Count, Total, Json, Field, Missing}
use Rattle.clr_rules.specs.declared.season_rules.Rule.{Rule}
use Rattle.clr_rules.specs.declared.season_rules.Rule.TheVariants as r
use Rattle.clr_cert.specs.declared.no.NoKind.{NoKind}
use Rattle.clr_cert.specs.declared.no.NoKind.TheVariants as k
use Rattle.clr_report.specs.declared.note.Doc.{Doc}
use Rattle.clr_report.specs.declared.note.Doc.TheVariants.{Rules}
use Rattle.clr_report.specs.declared.note.Cause.{Cause}
use Rattle.clr_report.specs.declared.note.Cause.TheVariants.{Words, Refused, NoPath, ReadFault, Absent, WriteFault, TooLong, Cells, Size, Base, CertificateNo, PolicyJson, PolicyShape, PolicyUnknown, PolicyRule, Memory}
use Rattle.clr_report.specs.Columns.{column_text, doc_text}
use Rattle.clr_report.specs.Lines.{line}

-- the words that the program takes
abbrev pub usage_text : List ℕ
usage_text = codes "usage: clearance plan|check|judge|make FOLDER [--steps N] [--step N] [--nodes N] [--cert NAME] [--seed N]"

-- a field: in rules.json its name, in a table its row and its column's name
abbrev pub field_words : Doc → ℕ → ℕ → List (List ℕ)
field_words Rules row column = column_text Rules column ∷ []
field_words table row column = codes "row" ∷ decimal row ∷ codes "column" ∷ column_text table column ∷ []

-- what a note tells of a refused file after its name
unfoldable pub refusal_words : Doc → ℕ → ℕ → Why → List (List ℕ)
refusal_words file row column Header = codes "header" ∷ []
refusal_words file row column Fields = codes "row" ∷ decimal row ∷ codes "fields" ∷ []
refusal_words file row column (Count found) = codes "count" ∷ decimal found ∷ []
refusal_words file row column Number = field_words file row column ++ codes "number" ∷ []
refusal_words file row column Money = field_words file row column ++ codes "money" ∷ []
refusal_words file row column Name = field_words file row column ++ codes "name" ∷ []
refusal_words file row column Range = field_words file row column ++ codes "range" ∷ []
refusal_words file row column Order = field_words file row column ++ codes "order" ∷ []
refusal_words file row column Unknown = field_words file row column ++ codes "unknown" ∷ []
refusal_words file row column (Repeat first_row) = codes "row" ∷ decimal row ∷ codes "repeat of row" ∷ decimal first_row ∷ []
refusal_words file row column (Total store week rung found) = codes "store" ∷ decimal store ∷ codes "week" ∷ decimal week ∷ codes "rung" ∷ decimal rung ∷ codes "total" ∷ decimal found ∷ []
refusal_words file row column Json = codes "json" ∷ []
refusal_words file row column Field = codes "field" ∷ []
refusal_words file row column Missing = field_words file row column ++ codes "missing" ∷ []

-- what a note tells of a condition of a certificate that fails: its kind and its two sides
abbrev pub sides_words : List ℕ → ℤ → ℤ → List (List ℕ)
sides_words kind left right = kind ∷ signed_decimal left ∷ signed_decimal right ∷ []

-- what a note tells of a refused line of a certificate after its number
unfoldable pub no_words : NoKind → ℤ → ℤ → List (List ℕ)
no_words k.Form left right = codes "form" ∷ []
no_words k.Range left right = codes "range" ∷ []
no_words k.Short left right = codes "short" ∷ []
no_words k.Extra left right = codes "extra" ∷ []
no_words k.Path left right = sides_words (codes "path") left right
no_words k.Sum left right = sides_words (codes "sum") left right
no_words k.Low left right = sides_words (codes "low") left right
no_words k.High left right = sides_words (codes "high") left right
no_words k.Value left right = sides_words (codes "value") left right
no_words k.Rung left right = sides_words (codes "rung") left right
no_words k.JointLow left right = sides_words (codes "jointlow") left right
no_words k.JointTop left right = sides_words (codes "jointtop") left right
no_words k.Total left right = sides_words (codes "total") left right

-- the word of a rule
abbrev pub rule_text : Rule → List ℕ
rule_text r.Rise = codes "rise"
rule_text r.Window = codes "window"
rule_text r.Frozen = codes "frozen"
rule_text r.Number = codes "number"
rule_text r.Spacing = codes "spacing"
rule_text r.FirstCut = codes "firstcut"

-- what a note tells of a branch of a policy
abbrev pub branch_words : ℕ → List ℕ → List (List ℕ)
branch_words branch why = codes "policy no: branch" ∷ decimal branch ∷ why ∷ []

-- the words of a cause's note
unfoldable pub note_words : Cause → List (List ℕ)
note_words Words = usage_text ∷ []
note_words (Refused doc row column why) = codes "refused:" ∷ doc_text doc ∷ refusal_words doc row column why
note_words NoPath = codes "no path" ∷ []
note_words (ReadFault doc) = codes "read fault:" ∷ doc_text doc ∷ []
note_words (Absent doc) = codes "absent:" ∷ doc_text doc ∷ []
note_words (WriteFault doc) = codes "write fault:" ∷ doc_text doc ∷ []
note_words (TooLong doc max) = codes "limit:" ∷ doc_text doc ∷ codes "longer than" ∷ decimal max ∷ []
note_words (Cells found) = codes "limit: cells" ∷ decimal found ∷ []
note_words (Size found) = codes "limit: policy size" ∷ decimal found ∷ []
note_words Base = codes "limit: base" ∷ []
note_words (CertificateNo reason) = codes "certificate no: row" ∷ decimal reason.row ∷ no_words reason.kind reason.left reason.right
note_words PolicyJson = codes "policy no: json" ∷ []
note_words (PolicyShape branch) = branch_words branch (codes "shape")
note_words (PolicyUnknown branch) = branch_words branch (codes "unknown")
note_words (PolicyRule branch rule) = branch_words branch (rule_text rule)
note_words Memory = codes "memory" ∷ []

-- the note of a cause
abbrev pub note_text_of : Cause → List ℕ
note_text_of cause = line (note_words cause)
