-- A table that is printed is read as its rows.
use Rattle.std.proofs.Common.{◌≡◌, ◌<◌, ◌≤◌, ◌+◌, ◌∙◌, ℕ, zero, suc, List, [], ◌∷◌, ◌++◌, length, map, true, false, Ok, refl, sym, ap, arith, length-append}
use Rattle.std.specs.Prelude.{reverse, ◌==◌, Some}
use Rattle.std.specs.List.{AllByRecursion, join_with_byte, list_any}
use Rattle.std.proofs.lemmas.Bool.{ne_eqb}
use Rattle.std.proofs.lemmas.List.{append-nil, reverse-append}
use Rattle.csv.specs.Machine.{next_record}
use Rattle.csv.specs.Reading.{default_config, records, records_from, strip_bom}
use Rattle.csv.specs.Writing.{default_writer, field_text, fields_text, is_blank, needs_byte, row_text}
use Rattle.csv.specs.declared.parser.State.TheVariants as st
use Rattle.csv.proofs.RoundTrip.{read-write-many}
use Rattle.clr_num.proofs.Fields.{Above, above-append}
use Rattle.clr_text.specs.Fields.{cut_of, without_front}
use Rattle.clr_text.specs.Tables.{Rows, same_texts, table_of}
use Rattle.clr_text.proofs.FlatRows.{OfWidth, cut_all}
use Rattle.clr_text.proofs.Widths.{table-good}
use Rattle.clr_make.specs.Made.{line, lines}

-- a field without a blank, a comma, a quote or the end of a line: all of its bytes are above the minus sign
abbrev pub IsPlain : List ℕ → Type 0
IsPlain field = Above 45 field

-- a row of so many plain fields
pub record IsPlainRow (width : ℕ) (fields : List (List ℕ)) : Type 0 where
  pub count : length fields ≡ width
  pub plain : AllByRecursion IsPlain fields

-- ---- a plain field is written and cut as it is

plain-quotes : (x : List ℕ) → IsPlain x → list_any (needs_byte default_writer) x ≡ false
plain-quotes [] p = refl
plain-quotes (b ∷ x) p =
    let comma : (b == 44) ≡ false = ne_eqb b 44 (λ e. omega (arith, p.0)) in
    let quote : (b == 34) ≡ false = ne_eqb b 34 (λ e. omega (arith, p.0)) in
    let return : (b == 13) ≡ false = ne_eqb b 13 (λ e. omega (arith, p.0)) in
    let feed : (b == 10) ≡ false = ne_eqb b 10 (λ e. omega (arith, p.0)) in
    rw (comma, quote, return, feed) (plain-quotes x p.1)

plain-text : (x : List ℕ) → IsPlain x → field_text default_writer x ≡ x
plain-text x p = rw (plain-quotes x p) refl

plain-front : (x : List ℕ) → IsPlain x → without_front x ≡ x
plain-front [] p = refl
plain-front (b ∷ x) p =
    let space : (b == 32) ≡ false = ne_eqb b 32 (λ e. omega (arith, p.0)) in
    let tab : (b == 9) ≡ false = ne_eqb b 9 (λ e. omega (arith, p.0)) in
    rw (space, tab) refl

plain-reverse : (x : List ℕ) → IsPlain x → IsPlain (reverse x)
plain-reverse [] p = tt
plain-reverse (b ∷ x) p = rw (reverse-append (b ∷ []) x) (above-append 45 (reverse x) (b ∷ []) (plain-reverse x p.1) (p.0, tt))

reverse-reverse : (x : List ℕ) → reverse (reverse x) ≡ x
reverse-reverse [] = refl
reverse-reverse (b ∷ x) = ap reverse (reverse-append (b ∷ []) x) ∙ (reverse-append (reverse x) (b ∷ []) ∙ ap (λ t. b ∷ t) (reverse-reverse x))

plain-cut : (x : List ℕ) → IsPlain x → cut_of x ≡ x
unfolding cut_of
plain-cut x p = rw (plain-front x p, plain-front (reverse x) (plain-reverse x p)) (reverse-reverse x)

plain-cuts : (fields : List (List ℕ)) → AllByRecursion IsPlain fields → map cut_of fields ≡ fields
plain-cuts [] p = refl
plain-cuts (x ∷ fields) p = rw (plain-cut x p.0, plain-cuts fields p.1) refl

plain-rows : (width : ℕ) (rows : Rows) → AllByRecursion (IsPlainRow width) rows → cut_all rows ≡ rows
plain-rows width [] p = refl
plain-rows width (fields ∷ rows) p = rw (plain-cuts fields p.0.plain, plain-rows width rows p.1) refl

-- ---- a line is what the crate that reads it would write

joined-text : (x : List ℕ) (fields : List (List ℕ)) → AllByRecursion IsPlain (x ∷ fields) → join_with_byte 44 (x ∷ fields) ≡ field_text default_writer x ++ fields_text default_writer fields
unfolding fields_text
joined-text x [] p = sym (ap (λ t. t ++ []) (plain-text x p.0) ∙ append-nil x)
joined-text x (y ∷ fields) p = ap (λ t. t ++ 44 ∷ join_with_byte 44 (y ∷ fields)) (sym (plain-text x p.0)) ∙ ap (λ t. field_text default_writer x ++ 44 ∷ t) (joined-text y fields p.1)

line-text : (x y : List ℕ) (fields : List (List ℕ)) → AllByRecursion IsPlain (x ∷ y ∷ fields) → line (x ∷ y ∷ fields) ≡ row_text default_writer (x ∷ y ∷ fields)
unfolding is_blank
line-text x y fields p = ap (λ t. t ++ 10 ∷ []) (joined-text x (y ∷ fields) p)

next-line : (width : ℕ) (fields : List (List ℕ)) (tail : List ℕ) → 2 ≤ width → IsPlainRow width fields → next_record default_config st.StartRecord [] [] (line fields ++ tail) ≡ Some (fields, st.StartRecord, tail)
next-line width [] tail wide p = absurd (omega (arith, p.count))
next-line width (x ∷ []) tail wide p = absurd (omega (arith, p.count))
next-line width (x ∷ y ∷ fields) tail wide p = ap (λ t. next_record default_config st.StartRecord [] [] (t ++ tail)) (line-text x y fields p.plain) ∙ read-write-many x y fields tail

-- ---- the lines of a table

records-lines : (width most : ℕ) (rows : Rows) → 2 ≤ width → length rows ≤ most → AllByRecursion (IsPlainRow width) rows → records_from default_config most st.StartRecord (lines rows) ≡ rows
unfolding records_from next_record lines
records-lines width zero [] wide le p = refl
records-lines width (suc most) [] wide le p = refl
records-lines width zero (fields ∷ rows) wide le p = absurd (omega arith)
records-lines width (suc most) (fields ∷ rows) wide le p =
    let under : length rows ≤ most = omega arith in
    rw (next-line width fields (lines rows) wide p.0) (ap (λ t. fields ∷ t) (records-lines width most rows wide under p.1))

lines-length : (rows : Rows) → length rows ≤ length (lines rows)
unfolding lines
lines-length [] = omega arith
lines-length (fields ∷ rows) =
    let rest = lines-length rows in
    let split = length-append (line fields) (lines rows) in
    let end = length-append (join_with_byte 44 fields) (10 ∷ []) in
    omega (arith, rest, split, end)

width-rows : (width : ℕ) (rows : Rows) → AllByRecursion (IsPlainRow width) rows → OfWidth width rows
width-rows width [] p j less = absurd (omega arith)
width-rows width (fields ∷ rows) p zero less = p.0.count
width-rows width (fields ∷ rows) p (suc j) less = let under : j < length rows = omega arith in width-rows width rows p.1 j under

-- a table of plain rows, under plain columns, is read as these rows
pub table-read : (columns : List (List ℕ)) (rows : Rows) → 2 ≤ length columns → same_texts columns columns ≡ true → AllByRecursion IsPlain columns → AllByRecursion (IsPlainRow (length columns)) rows
    → strip_bom (lines (columns ∷ rows)) ≡ lines (columns ∷ rows) → table_of columns (lines (columns ∷ rows)) ≡ Ok rows
table-read columns rows wide same head body start =
    let text = lines (columns ∷ rows) in
    let all : AllByRecursion (IsPlainRow (length columns)) (columns ∷ rows) = (record { count = refl; plain = head }, body) in
    let enough : length (columns ∷ rows) ≤ length text + 1 = omega (arith, lines-length (columns ∷ rows)) in
    let found : columns ∷ rows ≡ records default_config (strip_bom text) = sym (ap (λ t. records default_config t) start ∙ records-lines (length columns) (length text + 1) (columns ∷ rows) wide enough all) in
    let header : same_texts (map cut_of columns) columns ≡ true = ap (λ t. same_texts t columns) (plain-cuts columns head) ∙ same in
    table-good columns text columns rows found header (width-rows (length columns) rows body) ∙ ap Ok (plain-rows (length columns) rows body)
