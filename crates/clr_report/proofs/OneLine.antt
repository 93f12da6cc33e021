-- A note is one line.
use Rattle.std.proofs.Common.{◌≡◌, ℕ, ◌+◌, ◌-◌, ◌/◌, ◌%◌, ◌<◌, zero, suc, ℤ, pos, negsuc, true, false, List, [], ◌∷◌, ◌++◌, length, get_or, codes, decimal, arith}
use Rattle.std.specs.Fmt.{digits, digit_glyph, digits_onto, signed_decimal}
use Rattle.std.specs.List.{AllByRecursion}
use Rattle.std.specs.Prelude.{if◌then◌else◌, nat_lt, ◌==◌}
use Rattle.std.proofs.lemmas.List.{get_or_append_left, get_or_push, length_push}
use Rattle.clr_num.proofs.Fields.{Above, above-append}
use Rattle.clr_text.specs.declared.file.Why.{Why}
use Rattle.clr_text.specs.declared.file.Why.TheVariants.{Header, Fields, Number, Money, Name, Range, Order, Unknown, Repeat, Count, Total, Json, Field, Missing}
use Rattle.clr_rules.specs.declared.season_rules.Rule.{Rule}
use Rattle.clr_rules.specs.declared.season_rules.Rule.TheVariants as r
use Rattle.clr_cert.specs.declared.no.NoKind.{NoKind}
use Rattle.clr_cert.specs.declared.no.NoKind.TheVariants as k
use Rattle.clr_report.specs.declared.note.Doc.{Doc}
use Rattle.clr_report.specs.declared.note.Doc.TheVariants.{Rules, Calendar, Ladder, Stock, Demand, Certificate, Policy, Report}
use Rattle.clr_report.specs.declared.note.Cause.{Cause}
use Rattle.clr_report.specs.declared.note.Cause.TheVariants.{Words, Refused, NoPath, ReadFault, Absent, WriteFault, TooLong, Cells, Size, Base, CertificateNo, PolicyJson, PolicyShape, PolicyUnknown, PolicyRule, Memory}
use Rattle.clr_report.specs.Columns.{column_text, columns_of, doc_text}
use Rattle.clr_report.specs.Lines.{line, words_joined, IsLine}
use Rattle.clr_report.specs.NoteText.{branch_words, field_words, no_words, note_text_of, note_words, refusal_words, rule_text, sides_words}

-- ---- words without line feeds make one line

-- every byte of every word is a space or above
abbrev ArePrinted : List (List ℕ) → Type 0
ArePrinted words = AllByRecursion (λ word. Above 31 word) words

above-joined : (words : List (List ℕ)) → ArePrinted words → Above 31 (words_joined words)
above-joined [] h = tt
above-joined (x ∷ []) h = h.0
above-joined (x ∷ y ∷ xs) h = above-append 31 x (32 ∷ words_joined (y ∷ xs)) h.0 (omega arith, above-joined (y ∷ xs) h.1)

above-at : (xs : List ℕ) (at : ℕ) → Above 31 xs → at < length xs → 31 < get_or xs at 0
above-at [] at h lt = absurd (omega arith)
above-at (x ∷ xs) zero h lt = h.0
above-at (x ∷ xs) (suc at) h lt = above-at xs at h.1 (omega arith)

ends_with_feed : (text : List ℕ) → Above 31 text → IsLine (text ++ 10 ∷ [])
ends_with_feed text h =
    let size : length (text ++ 10 ∷ []) ≡ length text + 1 = length_push text 10 in
    record {
      ends = get_or_push text 10 0 (length (text ++ 10 ∷ []) - 1) (omega (arith, size));
      inside = λ at lt feed.
          let before : at < length text = omega (arith, size, lt) in
          let same : get_or (text ++ 10 ∷ []) at 0 ≡ get_or text at 0 = get_or_append_left text (10 ∷ []) 0 at before in
          let high : 31 < get_or text at 0 = above-at text at h before in
          omega (arith, same, high, feed);
    }

line_is : (words : List (List ℕ)) → ArePrinted words → IsLine (line words)
line_is words h = ends_with_feed (words_joined words) (above-joined words h)

-- ---- the words of a note

glyph_printed : (d : ℕ) → 31 < digit_glyph false d
glyph_printed d = elim (nat_lt d 10) as (λ small. 31 < (if small then 48 + d else 87 + d)) [ true ↦ omega arith | false ↦ omega arith ]

digits_printed : (k n : ℕ) (after : List ℕ) → Above 31 after → Above 31 (digits_onto k 10 false n after)
digits_printed zero n after h = h
digits_printed (suc k) n after h =
    let on : Above 31 (digit_glyph false (n % 10) ∷ after) = (glyph_printed (n % 10), h) in
    elim (n / 10 == 0) as (λ last. Above 31 (if last then digit_glyph false (n % 10) ∷ after else digits_onto k 10 false (n / 10) (digit_glyph false (n % 10) ∷ after))) [
      | true ↦ on
      | false ↦ digits_printed k (n / 10) (digit_glyph false (n % 10) ∷ after) on
    ]

decimal_printed : (n : ℕ) → Above 31 (decimal n)
unfolding digits
decimal_printed n = digits_printed 64 n [] tt

doc_printed : (doc : Doc) → Above 31 (doc_text doc)
doc_printed Rules = omega arith
doc_printed Calendar = omega arith
doc_printed Ladder = omega arith
doc_printed Stock = omega arith
doc_printed Demand = omega arith
doc_printed Certificate = omega arith
doc_printed Policy = omega arith
doc_printed Report = omega arith

columns_printed : (doc : Doc) → ArePrinted (columns_of doc)
columns_printed Rules = omega arith
columns_printed Calendar = omega arith
columns_printed Ladder = omega arith
columns_printed Stock = omega arith
columns_printed Demand = omega arith
columns_printed Certificate = tt
columns_printed Policy = tt
columns_printed Report = tt

printed-at : (words : List (List ℕ)) (at : ℕ) → ArePrinted words → Above 31 (get_or words at [])
printed-at [] at h = tt
printed-at (word ∷ words) zero h = h.0
printed-at (word ∷ words) (suc at) h = printed-at words at h.1

column_printed : (doc : Doc) (column : ℕ) → Above 31 (column_text doc column)
unfolding column_text
column_printed doc column = printed-at ([] ∷ columns_of doc) column (tt, columns_printed doc)

field_printed : (doc : Doc) (row column : ℕ) (fault : List ℕ) → Above 31 fault → ArePrinted (field_words doc row column ++ fault ∷ [])
field_printed Rules row column fault h = (column_printed Rules column, (h, tt))
field_printed table row column fault h = (omega arith, (decimal_printed row, (omega arith, (column_printed table column, (h, tt)))))

refusal_printed : (doc : Doc) (row column : ℕ) (why : Why) → ArePrinted (refusal_words doc row column why)
unfolding refusal_words
refusal_printed doc row column Header = (omega arith, tt)
refusal_printed doc row column Fields = (omega arith, (decimal_printed row, (omega arith, tt)))
refusal_printed doc row column (Count found) = (omega arith, (decimal_printed found, tt))
refusal_printed doc row column Number = field_printed doc row column (codes "number") (omega arith)
refusal_printed doc row column Money = field_printed doc row column (codes "money") (omega arith)
refusal_printed doc row column Name = field_printed doc row column (codes "name") (omega arith)
refusal_printed doc row column Range = field_printed doc row column (codes "range") (omega arith)
refusal_printed doc row column Order = field_printed doc row column (codes "order") (omega arith)
refusal_printed doc row column Unknown = field_printed doc row column (codes "unknown") (omega arith)
refusal_printed doc row column (Repeat first_row) = (omega arith, (decimal_printed row, (omega arith, (decimal_printed first_row, tt))))
refusal_printed doc row column (Total store week rung found) = (omega arith, (decimal_printed store, (omega arith, (decimal_printed week, (omega arith, (decimal_printed rung, (omega arith, (decimal_printed found, tt))))))))
refusal_printed doc row column Json = (omega arith, tt)
refusal_printed doc row column Field = (omega arith, tt)
refusal_printed doc row column Missing = field_printed doc row column (codes "missing") (omega arith)

signed_printed : (z : ℤ) → Above 31 (signed_decimal z)
signed_printed (pos n) = decimal_printed n
signed_printed (negsuc n) = (omega arith, decimal_printed (suc n))

sides_printed : (kind : List ℕ) (left right : ℤ) → Above 31 kind → ArePrinted (sides_words kind left right)
sides_printed kind left right h = (h, (signed_printed left, (signed_printed right, tt)))

no_printed : (kind : NoKind) (left right : ℤ) → ArePrinted (no_words kind left right)
unfolding no_words
no_printed k.Form left right = (omega arith, tt)
no_printed k.Range left right = (omega arith, tt)
no_printed k.Short left right = (omega arith, tt)
no_printed k.Extra left right = (omega arith, tt)
no_printed k.Path left right = sides_printed (codes "path") left right (omega arith)
no_printed k.Sum left right = sides_printed (codes "sum") left right (omega arith)
no_printed k.Low left right = sides_printed (codes "low") left right (omega arith)
no_printed k.High left right = sides_printed (codes "high") left right (omega arith)
no_printed k.Value left right = sides_printed (codes "value") left right (omega arith)
no_printed k.Rung left right = sides_printed (codes "rung") left right (omega arith)
no_printed k.JointLow left right = sides_printed (codes "jointlow") left right (omega arith)
no_printed k.JointTop left right = sides_printed (codes "jointtop") left right (omega arith)
no_printed k.Total left right = sides_printed (codes "total") left right (omega arith)

rule_printed : (rule : Rule) → Above 31 (rule_text rule)
rule_printed r.Rise = omega arith
rule_printed r.Window = omega arith
rule_printed r.Frozen = omega arith
rule_printed r.Number = omega arith
rule_printed r.Spacing = omega arith
rule_printed r.FirstCut = omega arith

branch_printed : (branch : ℕ) (why : List ℕ) → Above 31 why → ArePrinted (branch_words branch why)
branch_printed branch why h = (omega arith, (decimal_printed branch, (h, tt)))

note_printed : (cause : Cause) → ArePrinted (note_words cause)
unfolding note_words
note_printed Words = (omega arith, tt)
note_printed (Refused doc row column why) = (omega arith, (doc_printed doc, refusal_printed doc row column why))
note_printed NoPath = (omega arith, tt)
note_printed (ReadFault doc) = (omega arith, (doc_printed doc, tt))
note_printed (Absent doc) = (omega arith, (doc_printed doc, tt))
note_printed (WriteFault doc) = (omega arith, (doc_printed doc, tt))
note_printed (TooLong doc max) = (omega arith, (doc_printed doc, (omega arith, (decimal_printed max, tt))))
note_printed (Cells found) = (omega arith, (decimal_printed found, tt))
note_printed (Size found) = (omega arith, (decimal_printed found, tt))
note_printed Base = (omega arith, tt)
note_printed (CertificateNo reason) = (omega arith, (decimal_printed reason.row, no_printed reason.kind reason.left reason.right))
note_printed PolicyJson = (omega arith, tt)
note_printed (PolicyShape branch) = branch_printed branch (codes "shape") (omega arith)
note_printed (PolicyUnknown branch) = branch_printed branch (codes "unknown") (omega arith)
note_printed (PolicyRule branch rule) = branch_printed branch (rule_text rule) (rule_printed rule)
note_printed Memory = (omega arith, tt)

pub note_is_line : (cause : Cause) → IsLine (note_text_of cause)
note_is_line cause = line_is (note_words cause) (note_printed cause)
