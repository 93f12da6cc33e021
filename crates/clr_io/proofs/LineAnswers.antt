use Rattle.std.proofs.Common.{◌≡◌, ◌≤◌, ◌<◌, ℕ, Bool, true, false, ◌||◌, ◌+◌, List, [], ◌∷◌, ◌++◌, length, length-append, take, drop, nat_le, nat_lt, refl, arith, ap, sym, ◌∙◌, append-nil, append_assoc, inl, inr}
use Rattle.std.specs.Prelude.{Option, Some, None, IfSome, IsSomeAnd, if◌then◌else◌}
use Rattle.std.specs.Io.KnownBytes.{IsAtEnd}
use Rattle.std.proofs.Math.ListN.{drop_of_length-le}
use Rattle.std.proofs.lemmas.Bool.{cases_Bool, ltb-true, ltb-false, le-leb, lt-leb, lt-ltb, le-ltb}
use Rattle.std.proofs.lemmas.List.{take_all, take_at, drop_at, length-take}
use Rattle.std.proofs.lemmas.List.Folds.{list_any-append}
use Rattle.clr_io.specs.declared.lines.Line.{Line}
use Rattle.clr_io.specs.declared.lines.Line.TheVariants.{Whole, Long, Rest}
use Rattle.clr_io.specs.Lines.{GivesShort, IsNext, Reading, after_line, first_line, has_feed, is_feed}
use Rattle.clr_io.proofs.LineReading.{ReadOn, or_none, place_of_feed, place_of_none}

-- ---- the first line of bytes

first_of_feed : (line after : List ℕ) → has_feed line ≡ false → first_line (line ++ 10 ∷ after) ≡ line
first_of_feed line after none = rw (place_of_feed line after none) (take_at line (10 ∷ after) _ refl)

after_of_feed : (line after : List ℕ) → has_feed line ≡ false → after_line (line ++ 10 ∷ after) ≡ after
after_of_feed line after none =
    let split : (line ++ 10 ∷ []) ++ after ≡ line ++ 10 ∷ after = append_assoc line (10 ∷ []) after in
    let size : length (line ++ 10 ∷ []) ≡ length line + 1 = length-append line (10 ∷ []) in
    rw (place_of_feed line after none) (rw (← split) (drop_at (line ++ 10 ∷ []) after (length line + 1) size))

has_of_feed : (line after : List ℕ) → has_feed line ≡ false → has_feed (line ++ 10 ∷ after) ≡ true
has_of_feed line after none = list_any-append is_feed line (10 ∷ after) ∙ rw none refl

first_of_none : (bytes : List ℕ) → has_feed bytes ≡ false → first_line bytes ≡ bytes
first_of_none bytes none = rw (place_of_none bytes none) (take_all (length bytes) bytes (omega arith))

after_of_none : (bytes : List ℕ) → has_feed bytes ≡ false → after_line bytes ≡ []
after_of_none bytes none = rw (place_of_none bytes none) (drop_of_length-le bytes (omega arith))

whole_next : (longest : ℕ) (line after : List ℕ) → has_feed line ≡ false → length line ≤ longest → IsNext longest (line ++ 10 ∷ after) Whole line after
whole_next longest line after none fits =
    let first = first_of_feed line after none in
    let fits' : nat_le (length line) longest ≡ true = le-leb _ _ fits in
    record {
      answer = rw (has_of_feed line after none, first, fits') refl;
      gives = rw (first, fits') refl;
      leaves = sym (after_of_feed line after none);
    }

long_next : (longest : ℕ) (line after : List ℕ) → has_feed line ≡ false → longest < length line → IsNext longest (line ++ 10 ∷ after) Long [] after
long_next longest line after none over =
    let first = first_of_feed line after none in
    let over' : nat_le (length line) longest ≡ false = lt-leb _ _ over in
    record {
      answer = rw (has_of_feed line after none, first, over') refl;
      gives = rw (first, over') refl;
      leaves = sym (after_of_feed line after none);
    }

rest_next : (longest : ℕ) (bytes : List ℕ) → has_feed bytes ≡ false → length bytes ≤ longest → IsNext longest bytes (Rest false) bytes []
rest_next longest bytes none fits =
    let first = first_of_none bytes none in
    record {
      answer = rw (none, le-ltb longest (length bytes) fits) refl;
      gives = rw (first, le-leb (length bytes) longest fits) refl;
      leaves = sym (after_of_none bytes none);
    }

long_rest_next : (longest : ℕ) (bytes : List ℕ) → has_feed bytes ≡ false → longest < length bytes → IsNext longest bytes (Rest true) [] []
long_rest_next longest bytes none over =
    let first = first_of_none bytes none in
    record {
      answer = rw (none, lt-ltb longest (length bytes) over) refl;
      gives = rw (first, lt-leb (length bytes) longest over) refl;
      leaves = sym (after_of_none bytes none);
    }

-- ---- what is given, after bytes were read on

-- the bytes looked at have no line feed
pub none_looked : (skipped looked : List ℕ) → has_feed (skipped ++ looked) ≡ false → has_feed looked ≡ false
none_looked skipped looked none = let e : (has_feed skipped || has_feed looked) ≡ false = sym (list_any-append is_feed skipped looked) ∙ none in (or_none (has_feed skipped) (has_feed looked) e).1

over_by : (longest count : ℕ) (long : Bool) (skipped text : List ℕ) → (long || nat_lt longest count) ≡ true → (long ≡ true → longest < length skipped) → length text ≡ count → longest < length (skipped ++ text)
over_by longest count true skipped text over far size = let more = far refl in omega (arith, length-append skipped text)
over_by longest count false skipped text over far size = omega (arith, length-append skipped text, ltb-true longest count over)

-- the bytes to come, with those that were read on, up to a line feed
comes_line : (held read behind skipped held' text after : List ℕ) → held ++ read ≡ skipped ++ held' → held' ≡ text ++ 10 ∷ after → (behind' : List ℕ) → behind ≡ read ++ behind' → held ++ behind ≡ (skipped ++ text) ++ 10 ∷ (after ++ behind')
comes_line held read behind skipped held' text after is split behind' consumes =
    ap (λ l. held ++ l) consumes
    ∙ sym (append_assoc held read behind')
    ∙ ap (λ l. l ++ behind') is
    ∙ append_assoc skipped held' behind'
    ∙ ap (λ l. skipped ++ (l ++ behind')) split
    ∙ ap (λ l. skipped ++ l) (append_assoc text (10 ∷ after) behind')
    ∙ sym (append_assoc skipped text (10 ∷ (after ++ behind')))

pub line_given : (longest : ℕ) (held : List ℕ) (rest : Option (List ℕ)) (taken : ℕ) (held' : List ℕ) (rest' : Option (List ℕ)) (taken' : ℕ) (long : Bool) (count : ℕ) (line : Line) (given after : List ℕ) →
    ReadOn longest held rest taken held' (take count held') rest' taken' long → count < length held' → held' ≡ take count held' ++ 10 ∷ drop (count + 1) held' →
    line ≡ (if long || nat_lt longest count then Long else Whole) → given ≡ (if long || nat_lt longest count then [] else take count held') → after ≡ drop (count + 1) held' →
    IfSome rest (λ behind. IsSomeAnd rest' (λ behind'. IsNext longest (held ++ behind) line given (after ++ behind')))
line_given longest held None taken held' rest' taken' long count line given after on within split is_line is_given is_after = tt
line_given longest held (Some behind) taken held' None taken' long count line given after on within split is_line is_given is_after = absurd on.consumes
line_given longest held (Some behind) taken held' (Some behind') taken' long count line given after on within split is_line is_given is_after =
    let text = take count held' in
    let size : length text ≡ count = omega (arith, length-take count held') in
    let comes : held ++ behind ≡ (on.skipped ++ text) ++ 10 ∷ (after ++ behind') = rw is_after (comes_line held on.read behind on.skipped held' text (drop (count + 1) held') on.is split behind' on.consumes) in
    elim (cases_Bool (long || nat_lt longest count)) [
      | inl over ↦
          let e : line ≡ Long = rw over at is_line in
          let g : given ≡ [] = rw over at is_given in
          rw (comes, e, g) (long_next longest (on.skipped ++ text) (after ++ behind') on.none (over_by longest count long on.skipped text over on.over size))
      | inr fits ↦
          let parts = or_none long (nat_lt longest count) fits in
          let e : line ≡ Whole = rw fits at is_line in
          let g : given ≡ text = rw fits at is_given in
          let s : on.skipped ++ text ≡ text = ap (λ l. l ++ text) (on.short parts.0) in
          rw (comes, e, g, s) (whole_next longest text (after ++ behind') (none_looked on.skipped text on.none) (omega (arith, ltb-false longest count parts.1)))
    ]

pub line_short : (new : Reading) (longest count : ℕ) (long : Bool) (line : Line) (skipped text : List ℕ) → new.longest ≡ longest → length text ≤ count → has_feed (skipped ++ text) ≡ false →
    line ≡ (if long || nat_lt longest count then Long else Whole) → new.given ≡ (if long || nat_lt longest count then [] else text) → GivesShort line new
line_short new longest count long line skipped text same size none is_line is_given =
    elim (cases_Bool (long || nat_lt longest count)) [
      | inl over ↦
          let e : line ≡ Long = rw over at is_line in
          let g : new.given ≡ [] = rw over at is_given in
          rw e g
      | inr fits ↦
          let parts = or_none long (nat_lt longest count) fits in
          let e : line ≡ Whole = rw fits at is_line in
          let g : new.given ≡ text = rw fits at is_given in
          rw e (rw g (omega (arith, ltb-false longest count parts.1), none_looked skipped text none))
    ]

-- all that comes, where the file has ended
comes_rest : (held read behind skipped held' : List ℕ) → held ++ read ≡ skipped ++ held' → (behind' : List ℕ) → behind ≡ read ++ behind' → behind' ≡ [] → held ++ behind ≡ skipped ++ held'
comes_rest held read behind skipped held' is behind' consumes end = ap (λ l. held ++ l) (consumes ∙ ap (λ l. read ++ l) end ∙ append-nil read) ∙ is

pub rest_given : (longest : ℕ) (held : List ℕ) (rest : Option (List ℕ)) (taken : ℕ) (held' : List ℕ) (rest' : Option (List ℕ)) (taken' : ℕ) (long : Bool) (line : Line) (given after : List ℕ) →
    ReadOn longest held rest taken held' held' rest' taken' long → IsAtEnd rest' → length held' ≤ longest →
    line ≡ Rest long → given ≡ (if long then [] else held') → after ≡ [] →
    IfSome rest (λ behind. IsSomeAnd rest' (λ behind'. IsNext longest (held ++ behind) line given (after ++ behind')))
rest_given longest held None taken held' rest' taken' long line given after on end fits is_line is_given is_after = tt
rest_given longest held (Some behind) taken held' None taken' long line given after on end fits is_line is_given is_after = absurd on.consumes
rest_given longest held (Some behind) taken held' (Some behind') taken' true line given after on end fits is_line is_given is_after =
    let comes : held ++ behind ≡ on.skipped ++ held' = comes_rest held on.read behind on.skipped held' on.is behind' on.consumes end in
    let far : longest < length (on.skipped ++ held') = let more = on.over refl in omega (arith, length-append on.skipped held') in
    rw (comes, is_line, is_given, is_after, end) (long_rest_next longest (on.skipped ++ held') on.none far)
rest_given longest held (Some behind) taken held' (Some behind') taken' false line given after on end fits is_line is_given is_after =
    let comes : held ++ behind ≡ on.skipped ++ held' = comes_rest held on.read behind on.skipped held' on.is behind' on.consumes end in
    let s : on.skipped ++ held' ≡ held' = ap (λ l. l ++ held') (on.short refl) in
    rw (comes, is_line, is_given, is_after, end, s) (rest_next longest held' (none_looked on.skipped held' on.none) fits)
