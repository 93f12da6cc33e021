-- Lines of the bytes to come, and what reading one of them does.
use Rattle.std.specs.Prelude.{◌≡◌, ℕ, ◌+◌, ◌==◌, ◌++◌, ◌≤◌, Bool, true, false, nat_le, nat_lt, if◌then◌else◌, ◌<◌, List, [], ◌∷◌, length, take, drop, Option, IfSome, IsSomeAnd, Result, Ok, Err}
use Rattle.std.specs.List.{after_first, before_first, list_any}
use Rattle.clr_io.specs.declared.fault.Failed.{Failed}
use Rattle.clr_io.specs.declared.lines.Line.{Line}
use Rattle.clr_io.specs.declared.lines.Line.TheVariants.{Whole, Long, Rest, Over}

-- How `Lines` are seen: the most bytes of a line, the most bytes that may be taken, how many were taken, which of them were not yet
-- given, whether an earlier `next` answered Rest, Over or Failed, and the bytes that the last `next` gave.
pub record Reading : Type 0 where
  pub longest : ℕ
  pub max : ℕ
  pub taken : ℕ
  pub held : List ℕ
  pub ended : Bool
  pub given : List ℕ

-- ---- the bytes to come

abbrev pub is_feed : ℕ → Bool
is_feed byte = byte == 10

abbrev pub has_feed : List ℕ → Bool
has_feed bytes = list_any is_feed bytes

-- the bytes before the first line feed, and all where there is none
abbrev pub first_line : List ℕ → List ℕ
first_line bytes = before_first is_feed bytes

-- the bytes behind it
abbrev pub after_line : List ℕ → List ℕ
after_line bytes = after_first is_feed bytes

-- a line that a line feed ends, or the rest of the file
abbrev pub line_by : ℕ → List ℕ → Line
line_by longest bytes =
    if has_feed bytes then (if nat_le (length (first_line bytes)) longest then Whole else Long) else Rest (nat_lt longest (length bytes))

-- the line's bytes, or those of the rest; none where they are too many
abbrev pub given_by : ℕ → List ℕ → List ℕ
given_by longest bytes = if nat_le (length (first_line bytes)) longest then first_line bytes else []

-- ---- what `next` does

-- By the bytes to come: its answer, the bytes that it gives, and the bytes to come after it.
pub record IsNext (longest : ℕ) (bytes : List ℕ) (line : Line) (given bytes' : List ℕ) : Type 0 where
  pub answer : line ≡ line_by longest bytes
  pub gives : given ≡ given_by longest bytes
  pub leaves : bytes' ≡ after_line bytes

-- The same, where the shelf tells the rest of its file, and no more than the limit was taken.
abbrev pub Answers : Reading → Option (List ℕ) → Line → Reading → Option (List ℕ) → Type 0
Answers old rest line new rest' = new.taken ≤ new.max → IfSome rest (λ behind. IsSomeAnd rest' (λ behind'. IsNext old.longest (old.held ++ behind) line new.given (new.held ++ behind')))

-- Where it is told, every byte that was taken comes from the rest of the file.
abbrev pub Counts : Reading → Option (List ℕ) → Reading → Option (List ℕ) → Type 0
Counts old rest new rest' = IfSome rest (λ behind. IsSomeAnd rest' (λ behind'. new.taken + length behind' ≡ old.taken + length behind))

-- A line that is given isn't too long, and has no line feed.
abbrev pub IsShort : ℕ → List ℕ → Type 0
IsShort longest line = (length line ≤ longest) × (has_feed line ≡ false)

abbrev pub GivesShort : Line → Reading → Type 0
GivesShort Whole new = IsShort new.longest new.given
GivesShort Long new = new.given ≡ []
GivesShort (Rest true) new = new.given ≡ []
GivesShort (Rest false) new = IsShort new.longest new.given
GivesShort Over new = new.given ≡ []

-- A line that a line feed ended takes at least a byte: more were taken, or fewer are held.
abbrev pub TakesSome : Reading → Line → Reading → Type 0
TakesSome old Whole new = old.taken + length new.held + 1 ≤ new.taken + length old.held
TakesSome old Long new = old.taken + length new.held + 1 ≤ new.taken + length old.held
TakesSome old (Rest long) new = Unit {0}
TakesSome old Over new = Unit {0}

-- nothing may be asked for after this answer
abbrev pub ends : Result Line Failed → Bool
ends (Ok Whole) = false
ends (Ok Long) = false
ends (Ok (Rest long)) = true
ends (Ok Over) = true
ends (Err failed) = true

-- ---- for the parts of `next`

-- a line feed stands behind so many bytes, and none of those from a place on is one
pub record IsFeedAt (bytes : List ℕ) (known count : ℕ) : Type 0 where
  pub behind : known ≤ count
  pub within : count < length bytes
  pub here : bytes ≡ take count bytes ++ 10 ∷ drop (count + 1) bytes
  pub none : has_feed (drop known (take count bytes)) ≡ false

-- nothing but what is held and given differs
pub record IsSame (old new : Reading) : Type 0 where
  pub longest : new.longest ≡ old.longest
  pub max : new.max ≡ old.max
  pub taken : new.taken ≡ old.taken
  pub ended : new.ended ≡ old.ended
