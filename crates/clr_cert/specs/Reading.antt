-- The lines of a certificate, read: a text as lines, a line as its key and numbers, and the entries that lines tell.
use Rattle.std.specs.Prelude.{ℕ, suc, ◌-◌, ◌==◌, ◌&&◌, Bool, true, false, nat_le, nat_lt, if◌then◌else◌, List, [], ◌∷◌, length, map, take, drop, get_or, Option, Some, None, unwrap_or, ℤ, pos, unsigned_abs, int_le}
use Rattle.std.specs.Str.{bytes_eq}
use Rattle.std.specs.List.{list_all, position_or_len}
use Rattle.clr_rules.specs.LiveSummaries.{same_summary}
use Rattle.clr_season.specs.Season.{Season, store_at}
use Rattle.clr_cert.specs.declared.place.Place.{Place}
use Rattle.clr_cert.specs.declared.place.Place.TheVariants.{Head, Lengths, Path, Mult, Low, High, Value, Joint, Revenue, Bound, Exact, End}
use Rattle.clr_cert.specs.Entries.{CertEntries, most_entry, most_mult}
use Rattle.clr_cert.specs.Lines.{key_text}
use Rattle.clr_cert.specs.Numbers.{spelled_number, spells_number}
use Rattle.clr_cert.specs.Places.{all_stocks, places}

-- ---- pieces of a text

-- a byte in front of the first piece
abbrev pub onto_first : ℕ → List (List ℕ) → List (List ℕ)
onto_first byte [] = (byte ∷ []) ∷ []
onto_first byte (piece ∷ pieces) = (byte ∷ piece) ∷ pieces

-- what stands between the separators: one piece more than there are separators
abbrev pub pieces_of : ℕ → List ℕ → List (List ℕ)
pieces_of separator [] = [] ∷ []
pieces_of separator (byte ∷ bytes) = if byte == separator then [] ∷ pieces_of separator bytes else onto_first byte (pieces_of separator bytes)

-- the lines of a text, each ended by a line feed
abbrev pub ended_lines : List ℕ → List (List ℕ)
ended_lines bytes = take (length (pieces_of 10 bytes) - 1) (pieces_of 10 bytes)

-- what stands after the last line feed
abbrev pub unended : List ℕ → List ℕ
unended bytes = get_or (pieces_of 10 bytes) (length (pieces_of 10 bytes) - 1) []

-- the fields of a text in which each stands after a comma
abbrev pub comma_fields : List ℕ → Option (List (List ℕ))
comma_fields [] = Some []
comma_fields (byte ∷ bytes) = if byte == 44 then Some (pieces_of 44 bytes) else None

-- ---- the form of a line

-- the most bytes of a line, without its line feed
abbrev pub most_line : ℕ
most_line = 65536

-- how many numbers come after a line's key
abbrev pub count_at : Season → Place → ℕ
count_at season Head = 0
count_at season Lengths = 0
count_at season Path = season.rules.weeks
count_at season (Mult week rung) = length season.stores
count_at season (Low done store) = suc (store_at season store).units
count_at season (High done store) = suc (store_at season store).units
count_at season (Value done store s) = suc (store_at season store).units
count_at season (Joint done s index) = 3
count_at season Revenue = 2
count_at season Bound = 1
count_at season Exact = 2
count_at season End = 0

-- the fields after a key, where the line begins with it
abbrev pub fields_after : List ℕ → List ℕ → Option (List (List ℕ))
fields_after key line = if bytes_eq (take (length key) line) key then comma_fields (drop (length key) line) else None

-- the numbers that fields spell, where they are so many and each is in its spelling
abbrev pub numbers_in : ℕ → Option (List (List ℕ)) → Option (List ℤ)
numbers_in count None = None
numbers_in count (Some fields) = if (length fields == count) && list_all spells_number fields then Some (map spelled_number fields) else None

-- The numbers of a line that has the form of its place: it isn't too long, begins with the place's key, and goes on with so
-- many numbers, each after a comma and in its one spelling.
abbrev pub line_numbers : Season → Place → List ℕ → Option (List ℤ)
line_numbers season place line = if nat_le (length line) most_line then numbers_in (count_at season place) (fields_after (key_text season place) line) else None

-- ---- the range of its numbers

abbrev pub most_total : ℕ
most_total = 100000000000000000000

abbrev pub is_within : ℕ → ℤ → Bool
is_within most number = nat_le (unsigned_abs number) most

abbrev pub is_rung : Season → ℤ → Bool
is_rung season number = int_le (pos 1) number && int_le number (pos (length season.rules.prices))

-- the rung of all stores: one of the ladder, and 0 where no week comes
abbrev pub is_joint_rung : Season → ℕ → ℤ → Bool
is_joint_rung season done number = if done == season.rules.weeks then int_le (pos 0) number && int_le number (pos 0) else is_rung season number

abbrev pub are_in_range : Season → Place → List ℤ → Bool
are_in_range season Path numbers = list_all (is_rung season) numbers
are_in_range season (Mult week rung) numbers = list_all (is_within most_mult) numbers
are_in_range season (Low done store) numbers = list_all (is_within most_entry) numbers
are_in_range season (High done store) numbers = list_all (is_within most_entry) numbers
are_in_range season (Value done store s) numbers = list_all (is_within most_entry) numbers
are_in_range season (Joint done s index) numbers = is_joint_rung season done (get_or numbers 0 (pos 0)) && list_all (is_within most_entry) (drop 1 numbers)
are_in_range season Revenue numbers = list_all (is_within most_total) numbers
are_in_range season Bound numbers = list_all (is_within most_total) numbers
are_in_range season Exact numbers = list_all (is_within most_total) numbers
are_in_range season Head numbers = true
are_in_range season Lengths numbers = true
are_in_range season End numbers = true

-- ---- the entries that lines tell

-- two places are one
abbrev pub same_place : Place → Place → Bool
same_place Head Head = true
same_place Lengths Lengths = true
same_place Path Path = true
same_place (Mult week rung) (Mult week' rung') = (week == week') && (rung == rung')
same_place (Low done store) (Low done' store') = (done == done') && (store == store')
same_place (High done store) (High done' store') = (done == done') && (store == store')
same_place (Value done store s) (Value done' store' s') = (done == done') && ((store == store') && same_summary s s')
same_place (Joint done s index) (Joint done' s' index') = (done == done') && (same_summary s s' && (index == index'))
same_place Revenue Revenue = true
same_place Bound Bound = true
same_place Exact Exact = true
same_place End End = true
same_place _ _ = false

-- the number of a place's line, counted from 0
abbrev pub row_of : Season → Place → ℕ
row_of season place = position_or_len (same_place place) (places season)

-- the numbers of the line of a place: none where the season has no such place, or the line has another form
unfoldable pub numbers_told : Season → List (List ℕ) → Place → List ℤ
numbers_told season lines place = if nat_lt (row_of season place) (length (places season)) then unwrap_or (line_numbers season place (get_or lines (row_of season place) [])) [] else []

-- one of them, counted from 0
abbrev pub told : Season → List (List ℕ) → Place → ℕ → ℤ
told season lines place index = get_or (numbers_told season lines place) index (pos 0)

-- the number of a list of stocks, counted from 0
abbrev pub index_of : Season → List ℕ → ℕ
index_of season stocks = position_or_len (bytes_eq stocks) (all_stocks season.stores)

-- the path, multipliers and tables that the lines of a certificate tell
unfoldable pub entries_in : Season → List (List ℕ) → CertEntries
entries_in season lines = record {
  rung = λ week. unsigned_abs (told season lines Path (week - 1));
  mult = λ store week rung. told season lines (Mult week rung) (store - 1);
  low = λ done store stock. told season lines (Low done store) stock;
  high = λ done store stock. told season lines (High done store) stock;
  value = λ done store s stock. told season lines (Value done store s) stock;
  joint = λ done s stocks. let place = Joint done s (index_of season stocks) in (unsigned_abs (told season lines place 0), told season lines place 1, told season lines place 2);
}
