use Rattle.std.proofs.Common.{◌≡◌, ◌≤◌, ◌<◌, ℕ, zero, suc, Bool, true, false, ◌+◌, List, [], ◌∷◌, ◌++◌, length, length-append, nat_le, nat_lt, refl, arith, ap, sym, ◌∙◌, subst, add-one, append-nil, append_assoc, inl, inr, replicate}
use Rattle.std.specs.Prelude.{Option, Some, None, IfSome, IsSomeAnd}
use Rattle.std.specs.List.{position, position_or_len}
use Rattle.std.proofs.lemmas.Bool.{both_ways, cases_Bool, leb-false, ltb-true, ltb-false, le-leb}
use Rattle.std.proofs.lemmas.Grind.{flat_map-append}
use Rattle.std.proofs.Math.ListN.{drop_of_length-le}
use Rattle.std.proofs.lemmas.List.{length-replicate, take_all}
use Rattle.clr_io.specs.declared.lines.Line.TheVariants.{Whole, Long, Rest}
use Rattle.clr_io.specs.Lines.{Answers, Counts, GivesShort, IsNext, Reading, after_line, first_line, has_feed, is_feed}
use Rattle.clr_io.proofs.LineReading.{FeedHere, feed_absent, feed_found, place_of_none}
use Rattle.clr_cert.specs.Reading.{most_line}
use Rattle.clr_season.specs.Season.{Season}
use Rattle.clr_check.specs.FileChecks.{IsFed, IsFedWhole, rest_by}
use Rattle.clr_check.specs.Standing.{IsLine, IsRest, Kept, Stands, ended_text}

-- ---- what an answer says of the bytes to come

first_of_none : (bytes : List ℕ) → has_feed bytes ≡ false → first_line bytes ≡ bytes
first_of_none bytes none = rw (place_of_none bytes none) (take_all (length bytes) bytes (omega arith))

after_of_none : (bytes : List ℕ) → has_feed bytes ≡ false → after_line bytes ≡ []
after_of_none bytes none = rw (place_of_none bytes none) (drop_of_length-le bytes (omega arith))

-- the first line, where a line feed ends it
record Ended (bytes : List ℕ) : Type 0 where
  pub is : bytes ≡ first_line bytes ++ 10 ∷ after_line bytes
  pub none : has_feed (first_line bytes) ≡ false

ended_at : (bytes : List ℕ) (place : ℕ) → position_or_len is_feed bytes ≡ place → FeedHere bytes place → Ended bytes
ended_at bytes place e here = record {
  is = rw (e, add-one) here.is;
  none = rw e here.none;
}

ended : (bytes : List ℕ) → has_feed bytes ≡ true → Ended bytes
ended bytes has =
    elim (cases_Bool (nat_lt (position_or_len is_feed bytes) (length bytes))) [
      | inl hit ↦ let found : position is_feed bytes ≡ Some (position_or_len is_feed bytes) = rw hit refl in ended_at bytes (position_or_len is_feed bytes) refl (feed_found bytes (position_or_len is_feed bytes) found).1
      | inr miss ↦ let absent : position is_feed bytes ≡ None = rw miss refl in absurd (both_ways (has_feed bytes) (feed_absent bytes absent) has)
    ]

-- a line that is given whole
whole_said : (longest : ℕ) (bytes given bytes' : List ℕ) → IsNext longest bytes Whole given bytes' → bytes ≡ given ++ 10 ∷ bytes'
whole_said longest bytes given bytes' next =
    elim (cases_Bool (has_feed bytes)) [
      | inl has ↦ elim (cases_Bool (nat_le (length (first_line bytes)) longest)) [
        | inl fits ↦
            let gives : given ≡ first_line bytes = rw fits at next.gives in
            rw (gives, next.leaves) (ended bytes has).is
        | inr over ↦ let e : Whole ≡ Long = rw (has, over) at next.answer in cc e
      ]
      | inr none ↦ let e : Whole ≡ Rest (nat_lt longest (length bytes)) = rw none at next.answer in cc e
    ]

-- a line that is too long
record LongLine (longest : ℕ) (bytes bytes' : List ℕ) : Type 0 where
  pub line : List ℕ
  pub is : bytes ≡ line ++ 10 ∷ bytes'
  pub none : has_feed line ≡ false
  pub long : longest < length line

long_said : (longest : ℕ) (bytes given bytes' : List ℕ) → IsNext longest bytes Long given bytes' → LongLine longest bytes bytes'
long_said longest bytes given bytes' next =
    elim (cases_Bool (has_feed bytes)) [
      | inl has ↦ elim (cases_Bool (nat_le (length (first_line bytes)) longest)) [
        | inl fits ↦ let e : Long ≡ Whole = rw (has, fits) at next.answer in cc e
        | inr over ↦ record {
          line = first_line bytes;
          is = rw next.leaves (ended bytes has).is;
          none = (ended bytes has).none;
          long = leb-false (length (first_line bytes)) longest over;
        }
      ]
      | inr none ↦ let e : Long ≡ Rest (nat_lt longest (length bytes)) = rw none at next.answer in cc e
    ]

-- the rest of the file
record RestSaid (longest : ℕ) (bytes : List ℕ) (over : Bool) (given bytes' : List ℕ) : Type 0 where
  pub none : has_feed bytes ≡ false
  pub nothing : bytes' ≡ []
  pub long : over ≡ nat_lt longest (length bytes)
  pub gives : over ≡ false → given ≡ bytes

rest_of_none : (longest : ℕ) (bytes : List ℕ) (long : Bool) (given bytes' : List ℕ) → has_feed bytes ≡ false → IsNext longest bytes (Rest long) given bytes' → RestSaid longest bytes long given bytes'
rest_of_none longest bytes long given bytes' none next =
    let answer : Rest long ≡ Rest (nat_lt longest (length bytes)) = rw none at next.answer in
    let is : long ≡ nat_lt longest (length bytes) = cc answer in
    record {
      none = none;
      nothing = next.leaves ∙ after_of_none bytes none;
      long = is;
      gives = λ short.
          let few : length bytes ≤ longest = ltb-false longest (length bytes) (sym is ∙ short) in
          let fits : nat_le (length (first_line bytes)) longest ≡ true = rw (first_of_none bytes none) (le-leb (length bytes) longest few) in
          let e : given ≡ first_line bytes = rw fits at next.gives in
          e ∙ first_of_none bytes none;
    }

rest_said : (longest : ℕ) (bytes : List ℕ) (long : Bool) (given bytes' : List ℕ) → IsNext longest bytes (Rest long) given bytes' → RestSaid longest bytes long given bytes'
rest_said longest bytes long given bytes' next =
    elim (cases_Bool (has_feed bytes)) [
      | inl has ↦ elim (cases_Bool (nat_le (length (first_line bytes)) longest)) [
        | inl fits ↦ let e : Rest long ≡ Whole = rw (has, fits) at next.answer in cc e
        | inr over ↦ let e : Rest long ≡ Long = rw (has, over) at next.answer in cc e
      ]
      | inr none ↦ rest_of_none longest bytes long given bytes' none next
    ]

-- ---- lines that are fed

-- the text of one line more
ended_more : (lines : List (List ℕ)) (line behind : List ℕ) → ended_text lines ++ (line ++ 10 ∷ behind) ≡ ended_text (lines ++ line ∷ []) ++ behind
ended_more lines line behind =
    ap (λ l. ended_text lines ++ l) (sym (append_assoc line (10 ∷ []) behind))
    ∙ sym (append_assoc (ended_text lines) (line ++ 10 ∷ []) behind)
    ∙ ap (λ l. (ended_text lines ++ l) ++ behind) (sym (append-nil (line ++ 10 ∷ [])))
    ∙ ap (λ l. l ++ behind) (sym (flat_map-append (λ (l : List ℕ). l ++ 10 ∷ []) lines (line ∷ [])))

-- where one line more was fed
fed_line : (season : Season) (fed : List (List ℕ)) (held : List ℕ) (rest rest' rest'' : Option (List ℕ)) (checker checker' : Kept) (held' held'' line : List ℕ) (on : IsFed season fed held rest checker held' rest') →
    Stands season ((fed ++ on.more) ++ line ∷ []) checker' → IfSome rest (λ behind. IsSomeAnd rest'' (λ behind''. held ++ behind ≡ ended_text on.more ++ (line ++ 10 ∷ (held'' ++ behind'')))) →
    IsFed season fed held rest checker' held'' rest''
fed_line season fed held rest rest' rest'' checker checker' held' held'' line on stands is = record {
  more = on.more ++ line ∷ [];
  stands = rw (← append_assoc fed on.more (line ∷ [])) stands;
  is = with_line rest rest'' is;
}
  where
    with_line : (r r'' : Option (List ℕ)) → IfSome r (λ behind. IsSomeAnd r'' (λ behind''. held ++ behind ≡ ended_text on.more ++ (line ++ 10 ∷ (held'' ++ behind'')))) →
        IfSome r (λ behind. IsSomeAnd r'' (λ behind''. held ++ behind ≡ ended_text (on.more ++ line ∷ []) ++ (held'' ++ behind'')))
    with_line None r'' h = tt
    with_line (Some behind) None h = absurd h
    with_line (Some behind) (Some behind'') h = h ∙ ended_more on.more line (held'' ++ behind'')

pub fed_none : (season : Season) (fed : List (List ℕ)) (held : List ℕ) (rest : Option (List ℕ)) (checker : Kept) → Stands season fed checker → IsFed season fed held rest checker held rest
fed_none season fed held rest checker stands = record {
  more = [];
  stands = rw append-nil stands;
  is = same rest;
}
  where
    same : (r : Option (List ℕ)) → IfSome r (λ behind. IsSomeAnd r (λ behind'. held ++ behind ≡ held ++ behind'))
    same None = tt
    same (Some behind) = refl

pub fed_whole : (season : Season) (fed : List (List ℕ)) (held : List ℕ) (rest rest' rest'' : Option (List ℕ)) (checker checker' : Kept) (old new : Reading) → IsFed season fed held rest checker old.held rest' →
    Answers old rest' Whole new rest'' → new.taken ≤ new.max → ((lines : List (List ℕ)) → Stands season lines checker → Stands season (lines ++ new.given ∷ []) checker') →
    IsFed season fed held rest checker' new.held rest''
fed_whole season fed held rest rest' rest'' checker checker' old new on answers within stands =
    fed_line season fed held rest rest' rest'' checker checker' old.held new.held new.given on (stands (fed ++ on.more) on.stands) (split rest rest' rest'' on.is (answers within))
  where
    split : (r r' r'' : Option (List ℕ)) → IfSome r (λ behind. IsSomeAnd r' (λ behind'. held ++ behind ≡ ended_text on.more ++ (old.held ++ behind'))) →
        IfSome r' (λ behind'. IsSomeAnd r'' (λ behind''. IsNext old.longest (old.held ++ behind') Whole new.given (new.held ++ behind''))) →
        IfSome r (λ behind. IsSomeAnd r'' (λ behind''. held ++ behind ≡ ended_text on.more ++ (new.given ++ 10 ∷ (new.held ++ behind''))))
    split None r' r'' is next = tt
    split (Some behind) None r'' is next = absurd is
    split (Some behind) (Some behind') None is next = absurd next
    split (Some behind) (Some behind') (Some behind'') is next = is ∙ ap (λ l. ended_text on.more ++ l) (whole_said old.longest (old.held ++ behind') new.given (new.held ++ behind'') next)

-- zeros have no line feed
none_in_zeros : (count : ℕ) → has_feed (replicate count 0) ≡ false
none_in_zeros zero = refl
none_in_zeros (suc count) = none_in_zeros count

-- some line is too long
record TooLongLine : Type 0 where
  pub line : List ℕ
  pub none : IsLine line
  pub long : most_line < length line

zeros : (count : ℕ) → most_line < count → TooLongLine
zeros count many = record {
  line = replicate count 0;
  none = none_in_zeros count;
  long = rw (length-replicate {A = ℕ} count 0) many;
}

a_long_line : TooLongLine
a_long_line = zeros 65537 (omega arith)

pub fed_long : (season : Season) (fed : List (List ℕ)) (held : List ℕ) (rest rest' rest'' : Option (List ℕ)) (checker checker' : Kept) (old new : Reading) → IsFed season fed held rest checker old.held rest' →
    Answers old rest' Long new rest'' → new.taken ≤ new.max → old.longest ≡ 65536 →
    ((lines : List (List ℕ)) (line : List ℕ) → IsLine line → most_line < length line → Stands season lines checker → Stands season (lines ++ line ∷ []) checker') →
    IsFed season fed held rest checker' new.held rest''
fed_long season fed held None rest' rest'' checker checker' old new on answers within longest stands =
    fed_line season fed held None rest' rest'' checker checker' old.held new.held a_long_line.line on (stands (fed ++ on.more) a_long_line.line a_long_line.none a_long_line.long on.stands) tt
fed_long season fed held (Some behind) None rest'' checker checker' old new on answers within longest stands = absurd on.is
fed_long season fed held (Some behind) (Some behind') None checker checker' old new on answers within longest stands = absurd (answers within)
fed_long season fed held (Some behind) (Some behind') (Some behind'') checker checker' old new on answers within longest stands =
    let said = long_said old.longest (old.held ++ behind') new.given (new.held ++ behind'') (answers within) in
    fed_line season fed held (Some behind) (Some behind') (Some behind'') checker checker' old.held new.held said.line on (stands (fed ++ on.more) said.line said.none (subst (λ (n : ℕ). n < length said.line) longest said.long) on.stands) (on.is ∙ ap (λ l. ended_text on.more ++ l) said.is)

rest_is : (bytes given : List ℕ) (long : Bool) → long ≡ nat_lt most_line (length bytes) → (long ≡ false → given ≡ bytes) → IsRest (rest_by given long) bytes
rest_is bytes given true is same = ltb-true most_line (length bytes) (sym is)
rest_is bytes [] false is same = sym (same refl)
rest_is bytes (byte ∷ given) false is same =
    let e : byte ∷ given ≡ bytes = same refl in
    let size : suc (length given) ≡ length bytes = ap length e in
    (omega arith, ltb-false most_line (length bytes) (sym is))

-- what stands at the end, where the shelf doesn't tell it
record EndUntold (given : List ℕ) (long : Bool) : Type 0 where
  pub last : List ℕ
  pub line : IsLine last
  pub ends : IsRest (rest_by given long) last

end_untold : (new : Reading) (long : Bool) → GivesShort (Rest long) new → new.longest ≡ 65536 → EndUntold new.given long
end_untold new true short longest = record {
  last = a_long_line.line;
  line = a_long_line.none;
  ends = a_long_line.long;
}
end_untold new false short longest = record {
  last = new.given;
  line = short.1;
  ends = few new.given (subst (λ (n : ℕ). length new.given ≤ n) longest short.0);
}
  where
    few : (given : List ℕ) → length given ≤ most_line → IsRest (rest_by given false) given
    few [] h = refl
    few (byte ∷ given) h = (omega arith, h)

pub fed_rest : (season : Season) (fed : List (List ℕ)) (held : List ℕ) (rest rest' rest'' : Option (List ℕ)) (checker : Kept) (old new : Reading) (long : Bool) → IsFed season fed held rest checker old.held rest' →
    Answers old rest' (Rest long) new rest'' → new.taken ≤ new.max → old.longest ≡ 65536 → new.longest ≡ 65536 → GivesShort (Rest long) new → IsFedWhole season fed held rest checker (rest_by new.given long)
fed_rest season fed held None rest' rest'' checker old new long on answers within longest longest' short =
    let end = end_untold new long short longest' in
    record { more = on.more; last = end.last; stands = on.stands; line = end.line; ends = end.ends; is = tt }
fed_rest season fed held (Some behind) None rest'' checker old new long on answers within longest longest' short = absurd on.is
fed_rest season fed held (Some behind) (Some behind') None checker old new long on answers within longest longest' short = absurd (answers within)
fed_rest season fed held (Some behind) (Some behind') (Some behind'') checker old new long on answers within longest longest' short =
    let said = rest_said old.longest (old.held ++ behind') long new.given (new.held ++ behind'') (answers within) in
    record {
      more = on.more;
      last = old.held ++ behind';
      stands = on.stands;
      line = said.none;
      ends = rest_is (old.held ++ behind') new.given long (said.long ∙ ap (λ (n : ℕ). nat_lt n (length (old.held ++ behind'))) longest) said.gives;
      is = on.is;
    }

-- ---- how many bytes were taken

abbrev pub Counted : ℕ → Option (List ℕ) → ℕ → Option (List ℕ) → Type 0
Counted taken rest taken' rest' = IfSome rest (λ behind. IsSomeAnd rest' (λ behind'. taken' + length behind' ≡ taken + length behind))

pub counted : (taken : ℕ) (rest : Option (List ℕ)) → Counted taken rest taken rest
counted taken None = tt
counted taken (Some behind) = refl

pub counted_on : (taken : ℕ) (rest rest' rest'' : Option (List ℕ)) (old new : Reading) → Counted taken rest old.taken rest' → Counts old rest' new rest'' → Counted taken rest new.taken rest''
counted_on taken None rest' rest'' old new on counts = tt
counted_on taken (Some behind) None rest'' old new on counts = absurd on
counted_on taken (Some behind) (Some behind') None old new on counts = absurd counts
counted_on taken (Some behind) (Some behind') (Some behind'') old new on counts = counts ∙ on

-- no more than the file has
pub counted_most : (taken : ℕ) (rest : Option (List ℕ)) (taken' : ℕ) (rest' : Option (List ℕ)) → Counted taken rest taken' rest' → IfSome rest (λ behind. taken' ≤ taken + length behind)
counted_most taken None taken' rest' on = tt
counted_most taken (Some behind) taken' None on = absurd on
counted_most taken (Some behind) taken' (Some behind') on = omega arith

-- and all of it at its end
pub counted_all : (taken : ℕ) (rest rest' rest'' : Option (List ℕ)) (old new : Reading) (long : Bool) → Counted taken rest old.taken rest' → Counts old rest' new rest'' → Answers old rest' (Rest long) new rest'' → new.taken ≤ new.max →
    IfSome rest (λ behind. new.taken ≡ taken + length behind)
counted_all taken None rest' rest'' old new long on counts answers within = tt
counted_all taken (Some behind) None rest'' old new long on counts answers within = absurd on
counted_all taken (Some behind) (Some behind') None old new long on counts answers within = absurd counts
counted_all taken (Some behind) (Some behind') (Some behind'') old new long on counts answers within =
    let said = rest_said old.longest (old.held ++ behind') long new.given (new.held ++ behind'') (answers within) in
    let none : length (new.held ++ behind'') ≡ 0 = ap length said.nothing in
    omega (arith, length-append new.held behind'')
