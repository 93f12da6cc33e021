use Rattle.std.proofs.Common.{◌≡◌, ◌≤◌, ◌<◌, ℕ, suc, Bool, true, false, ◌||◌, not, ◌+◌, ◌-◌, List, [], ◌∷◌, ◌++◌, length, length-append, length-drop, take, drop, nat_lt, refl, arith, ap, sym, ◌∙◌, subst, append-nil, append_assoc, cond, inl, inr, ◌⊎◌}
use Rattle.std.specs.Prelude.{Option, Some, None, if◌then◌else◌}
use Rattle.std.specs.Io.KnownBytes.{Consumes}
use Rattle.std.specs.List.{position, position_or_len}
use Rattle.std.proofs.KnownBytes.{Consumes-nil, Consumes-trans}
use Rattle.std.proofs.Math.Seq.{take-add}
use Rattle.std.proofs.lemmas.Bool.{cases_Bool, eqb-true, ltb-true, ltb-false}
use Rattle.std.proofs.lemmas.List.{drop-drop, drop-take, take-append-drop, take_at}
use Rattle.std.proofs.lemmas.List.Folds.{list_any-append}
use Rattle.clr_io.specs.Lines.{IsFeedAt, has_feed, is_feed}
use Rattle.clr_io.specs.ReadBuffer.{TakesPiece}

-- ---- a line feed in a list

pub or_none : (a b : Bool) → (a || b) ≡ false → (a ≡ false) × (b ≡ false)
or_none true b none = absurd (cc)
or_none false b none = (refl, none)

-- a list without a line feed is its own first line
pub place_of_none : (bytes : List ℕ) → has_feed bytes ≡ false → position_or_len is_feed bytes ≡ length bytes
place_of_none [] none = refl
place_of_none (byte ∷ bytes) none =
    let parts = or_none (is_feed byte) (has_feed bytes) none in
    let e : position_or_len is_feed bytes ≡ length bytes = place_of_none bytes parts.1 in
    rw parts.0 (omega arith)

-- the first line feed stands behind a line without one
pub place_of_feed : (line rest : List ℕ) → has_feed line ≡ false → position_or_len is_feed (line ++ 10 ∷ rest) ≡ length line
place_of_feed [] rest none = refl
place_of_feed (byte ∷ line) rest none =
    let parts = or_none (is_feed byte) (has_feed line) none in
    let e : position_or_len is_feed (line ++ 10 ∷ rest) ≡ length line = place_of_feed line rest parts.1 in
    rw parts.0 (omega arith)

-- a line feed stands at a place, and none before it
pub record FeedHere (bytes : List ℕ) (place : ℕ) : Type 0 where
  pub is : bytes ≡ take place bytes ++ 10 ∷ drop (suc place) bytes
  pub none : has_feed (take place bytes) ≡ false

here_later : (byte : ℕ) (bytes : List ℕ) (place : ℕ) → is_feed byte ≡ false → FeedHere bytes place → FeedHere (byte ∷ bytes) (suc place)
here_later byte bytes place other later = record {
  is = ap (λ (l : List ℕ). byte ∷ l) later.is;
  none = rw other later.none;
}

here_now : (byte : ℕ) (bytes : List ℕ) → is_feed byte ≡ true → FeedHere (byte ∷ bytes) 0
here_now byte bytes hit = record { is = ap (λ (b : ℕ). b ∷ bytes) (eqb-true byte 10 hit); none = refl }

pub feed_here : (bytes : List ℕ) → position_or_len is_feed bytes < length bytes → FeedHere bytes (position_or_len is_feed bytes)
feed_here [] within = absurd (omega arith)
feed_here (byte ∷ bytes) within =
    elim (cases_Bool (is_feed byte)) [
      | inl hit ↦ rw hit (here_now byte bytes hit)
      | inr miss ↦
          let short : cond (not (is_feed byte)) (1 + position_or_len is_feed bytes) 0 < suc (length bytes) = within in
          let less : 1 + position_or_len is_feed bytes < suc (length bytes) = rw miss at short in
          let e : 1 + position_or_len is_feed bytes ≡ suc (position_or_len is_feed bytes) = omega arith in
          rw miss (rw e (here_later byte bytes (position_or_len is_feed bytes) miss (feed_here bytes (omega arith))))
    ]

none_here : (bytes : List ℕ) → length bytes ≤ position_or_len is_feed bytes → has_feed bytes ≡ false
none_here [] past = refl
none_here (byte ∷ bytes) past =
    elim (cases_Bool (is_feed byte)) [
      | inl hit ↦
          let long : suc (length bytes) ≤ cond (not (is_feed byte)) (1 + position_or_len is_feed bytes) 0 = past in
          let more : suc (length bytes) ≤ 0 = rw hit at long in
          absurd (omega arith)
      | inr miss ↦
          let long : suc (length bytes) ≤ cond (not (is_feed byte)) (1 + position_or_len is_feed bytes) 0 = past in
          let more : suc (length bytes) ≤ 1 + position_or_len is_feed bytes = rw miss at long in
          rw miss (none_here bytes (omega arith))
    ]

-- miss place is found
pub feed_absent : (bytes : List ℕ) → position is_feed bytes ≡ None → has_feed bytes ≡ false
feed_absent bytes absent =
    elim (cases_Bool (nat_lt (position_or_len is_feed bytes) (length bytes))) [
      | inl hit ↦ let e : Some (position_or_len is_feed bytes) ≡ None = rw hit at absent in cc e
      | inr miss ↦ none_here bytes (ltb-false _ _ miss)
    ]

-- a place is found
pub feed_found : (bytes : List ℕ) (place : ℕ) → position is_feed bytes ≡ Some place → (place < length bytes) × FeedHere bytes place
feed_found bytes place found =
    elim (cases_Bool (nat_lt (position_or_len is_feed bytes) (length bytes))) [
      | inl hit ↦
          let e : Some (position_or_len is_feed bytes) ≡ Some place = rw hit at found in
          let is : position_or_len is_feed bytes ≡ place = cc in
          let within : position_or_len is_feed bytes < length bytes = ltb-true _ _ hit in
          rw (← is) (within, feed_here bytes within)
      | inr miss ↦ let e : ◌≡◌ {A = Option ℕ} None (Some place) = rw miss at found in cc e
    ]

-- a place is found behind some bytes that were looked at before
pub feed_behind : (bytes : List ℕ) (known place : ℕ) → known ≤ length bytes → position is_feed (drop known bytes) ≡ Some place → IsFeedAt bytes known (known + place)
feed_behind bytes known place within found =
    let parts = feed_found (drop known bytes) place found in
    let less : place < length (drop known bytes) = parts.0 in
    let front : take (known + place) bytes ≡ take known bytes ++ take place (drop known bytes) = take-add known place bytes in
    let behind : drop (suc place) (drop known bytes) ≡ drop (known + place + 1) bytes = let e : known + suc place ≡ known + place + 1 = omega arith in drop-drop (suc place) known bytes ∙ ap (λ n. drop n bytes) e in
    record {
      behind = omega arith;
      within = omega (arith, length-drop known bytes);
      here =
          sym (take-append-drop known bytes)
          ∙ ap (λ l. take known bytes ++ l) parts.1.is
          ∙ sym (append_assoc (take known bytes) (take place (drop known bytes)) (10 ∷ drop (suc place) (drop known bytes)))
          ∙ ap (λ l. l ++ 10 ∷ drop (suc place) (drop known bytes)) (sym front)
          ∙ ap (λ l. take (known + place) bytes ++ 10 ∷ l) behind;
      none = rw (drop-take known place bytes) parts.1.none;
    }

-- ---- bytes read on

-- From what was held, and what was read behind it, some bytes were skipped, and the others are held. None of the skipped bytes is a line
-- feed, nor one of those that were looked at. Bytes are skipped only where they are too many for a line.
pub record ReadOn (longest : ℕ) (held : List ℕ) (rest : Option (List ℕ)) (taken : ℕ) (held' looked : List ℕ) (rest' : Option (List ℕ)) (taken' : ℕ) (long : Bool) : Type 0 where
  pub read : List ℕ
  pub size : taken + length read ≡ taken'
  pub consumes : Consumes rest rest' read
  pub skipped : List ℕ
  pub is : held ++ read ≡ skipped ++ held'
  pub none : has_feed (skipped ++ looked) ≡ false
  pub short : long ≡ false → skipped ≡ []
  pub over : long ≡ true → longest < length skipped

pub start : (longest : ℕ) (held looked : List ℕ) (rest : Option (List ℕ)) (taken : ℕ) → has_feed looked ≡ false → ReadOn longest held rest taken held looked rest taken false
start longest held looked rest taken none = record {
  read = [];
  size = omega arith;
  consumes = Consumes-nil rest;
  skipped = [];
  is = append-nil held;
  none = none;
  short = λ _. refl;
  over = λ e. absurd (cc e);
}

-- what is held is skipped, where it is too long
pub skip_long : (longest : ℕ) (held : List ℕ) (rest : Option (List ℕ)) (taken : ℕ) (held' : List ℕ) (rest' : Option (List ℕ)) (taken' : ℕ) (long : Bool) →
    ReadOn longest held rest taken held' held' rest' taken' long → (long || nat_lt longest (length held')) ≡ true → ReadOn longest held rest taken [] [] rest' taken' true
skip_long longest held rest taken held' rest' taken' long on is_long =
    record {
      read = on.read;
      size = on.size;
      consumes = on.consumes;
      skipped = on.skipped ++ held';
      is = on.is ∙ sym (append-nil (on.skipped ++ held'));
      none = rw append-nil on.none;
      short = λ e. absurd (cc e);
      over = λ _. skipped_more (cases_Bool long);
    }
  where
    skipped_more : (long ≡ true) ⊎ (long ≡ false) → longest < length (on.skipped ++ held')
    skipped_more (inl was) = let far = on.over was in omega (arith, length-append on.skipped held')
    skipped_more (inr not_yet) = let e : nat_lt longest (length held') ≡ true = rw not_yet at is_long in omega (arith, length-append on.skipped held', ltb-true longest (length held') e)

-- a piece comes, of which some bytes are looked at
pub piece_comes : (longest : ℕ) (held : List ℕ) (rest : Option (List ℕ)) (taken : ℕ) (held' : List ℕ) (rest' : Option (List ℕ)) (taken' : ℕ) (held'' more : List ℕ) (rest'' : Option (List ℕ)) (count taken'' : ℕ) (long : Bool) →
    ReadOn longest held rest taken held' held' rest' taken' long → TakesPiece held' held'' rest' rest'' count → taken'' ≡ taken' + count → has_feed more ≡ false →
    ReadOn longest held rest taken held'' (held' ++ more) rest'' taken'' long
piece_comes longest held rest taken held' rest' taken' held'' more rest'' count taken'' long on piece sum none = record {
  read = on.read ++ piece.piece;
  size = omega (arith, length-append on.read piece.piece, on.size, piece.size);
  consumes = Consumes-trans rest rest' rest'' on.read piece.piece on.consumes piece.consumes;
  skipped = on.skipped;
  is = sym (append_assoc held on.read piece.piece) ∙ ap (λ l. l ++ piece.piece) on.is ∙ append_assoc on.skipped held' piece.piece ∙ ap (λ l. on.skipped ++ l) (sym piece.grows);
  none = rw (← append_assoc on.skipped held' more) (list_any-append is_feed (on.skipped ++ held') more ∙ rw (on.none, none) refl);
  short = on.short;
  over = on.over;
}

-- what is held of a line that is too long is dropped
pub room_made : (longest : ℕ) (held : List ℕ) (rest : Option (List ℕ)) (taken : ℕ) (held' : List ℕ) (rest' : Option (List ℕ)) (taken' : ℕ) (long long' : Bool) (held'' : List ℕ) →
    ReadOn longest held rest taken held' held' rest' taken' long → long' ≡ (long || nat_lt longest (length held')) → held'' ≡ (if long' then [] else held') →
    ReadOn longest held rest taken held'' held'' rest' taken' long'
room_made longest held rest taken held' rest' taken' long true held'' on is_long is_held = rw is_held (skip_long longest held rest taken held' rest' taken' long on (sym is_long))
room_made longest held rest taken held' rest' taken' long false held'' on is_long is_held =
    let parts = or_none long (nat_lt longest (length held')) (sym is_long) in
    rw is_held (subst (λ (b : Bool). ReadOn longest held rest taken held' held' rest' taken' b) parts.0 on)

pub room_is : (longest : ℕ) (held' : List ℕ) (long long' : Bool) (held'' : List ℕ) → long' ≡ (long || nat_lt longest (length held')) → held'' ≡ (if long' then [] else held') → length held'' ≤ longest
room_is longest held' long true held'' is_long is_held = rw is_held (omega arith)
room_is longest held' long false held'' is_long is_held =
    let parts = or_none long (nat_lt longest (length held')) (sym is_long) in
    rw is_held (omega (arith, ltb-false longest (length held') parts.1))

-- what was held, and the bytes behind it that are looked at
pub looked_all : (held held' piece : List ℕ) → held' ≡ held ++ piece → held ++ drop (length held) held' ≡ held'
looked_all held held' piece grows =
    let front : take (length held) held' ≡ held = ap (take (length held)) grows ∙ take_at held piece _ refl in
    ap (λ l. l ++ drop (length held) held') (sym front) ∙ take-append-drop (length held) held'

pub looked_front : (held held' piece : List ℕ) (count : ℕ) → held' ≡ held ++ piece → length held ≤ count → held ++ drop (length held) (take count held') ≡ take count held'
looked_front held held' piece count grows behind =
    let front : take (length held) held' ≡ held = ap (take (length held)) grows ∙ take_at held piece _ refl in
    let sum : length held + (count - length held) ≡ count = omega arith in
    let whole : take count held' ≡ take (length held) held' ++ take (count - length held) (drop (length held) held') = ap (λ n. take n held') (sym sum) ∙ take-add (length held) (count - length held) held' in
    let after : drop (length held) (take count held') ≡ take (count - length held) (drop (length held) held') = ap (λ n. drop (length held) (take n held')) (sym sum) ∙ drop-take (length held) (count - length held) held' in
    ap (λ l. held ++ l) after ∙ ap (λ l. l ++ take (count - length held) (drop (length held) held')) (sym front) ∙ sym whole
