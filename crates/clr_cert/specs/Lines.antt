-- The text of a certificate, line by line.
use Rattle.std.specs.Prelude.{ℕ, suc, if◌then◌else◌, List, [], ◌∷◌, ◌++◌, length, map, get_or, ℤ, pos, codes, decimal}
use Rattle.std.specs.Fmt.{signed_decimal}
use Rattle.std.specs.List.{flat_map}
use Rattle.clr_num.specs.Lists.{numbers}
use Rattle.clr_rules.specs.declared.season_rules.Summary.{Summary}
use Rattle.clr_rules.specs.LiveSummaries.{live_summaries}
use Rattle.clr_rules.specs.Rules.{summary}
use Rattle.clr_season.specs.Season.{Season, store_at}
use Rattle.clr_model.specs.Revenue.{full_stocks, sum_stores}
use Rattle.clr_cert.specs.declared.place.Place.{Place}
use Rattle.clr_cert.specs.declared.place.Place.TheVariants.{Head, Lengths, Path, Mult, Low, High, Value, Joint, Revenue, Bound, Exact, End}
use Rattle.clr_cert.specs.Entries.{CertEntries}
use Rattle.clr_cert.specs.Places.{all_stocks, has_lengths, places, store_numbers, week_numbers}

-- ---- fields

-- numbers of a line's key, each after a comma
abbrev pub key_fields : List ℕ → List ℕ
key_fields keys = flat_map (λ key. 44 ∷ decimal key) keys

-- the numbers after it, each after a comma
abbrev pub number_fields : List ℤ → List ℕ
number_fields numbers = flat_map (λ number. 44 ∷ signed_decimal number) numbers

-- ---- the key of a line

abbrev pub head_text : Season → List ℕ
head_text season = if has_lengths season then codes "clearance certificate 2" else codes "clearance certificate 1"

abbrev pub summary_keys : Summary → List ℕ
summary_keys s = s.last ∷ s.count ∷ s.age ∷ []

-- the numbers of all lines, and of the live summaries after each number of weeks
unfoldable pub length_keys : Season → List ℕ
length_keys season = length (places season) ∷ map (λ done. length (live_summaries season.rules done)) (numbers 0 (suc season.rules.weeks))

-- a list of stocks by its number, counted from 0
abbrev pub stocks_at : Season → ℕ → List ℕ
stocks_at season index = get_or (all_stocks season.stores) index []

-- what a line begins with, which the season and the line's place determine
unfoldable pub key_text : Season → Place → List ℕ
key_text season Head = head_text season
key_text season Lengths = codes "lengths" ++ key_fields (length_keys season)
key_text season Path = codes "path"
key_text season (Mult week rung) = codes "m" ++ key_fields (week ∷ rung ∷ [])
key_text season (Low done store) = codes "l" ++ key_fields (done ∷ store ∷ [])
key_text season (High done store) = codes "h" ++ key_fields (done ∷ store ∷ [])
key_text season (Value done store s) = codes "v" ++ key_fields (done ∷ store ∷ summary_keys s)
key_text season (Joint done s index) = codes "j" ++ key_fields (done ∷ (summary_keys s ++ stocks_at season index))
key_text season Revenue = codes "revenue"
key_text season Bound = codes "bound"
key_text season Exact = codes "exact"
key_text season End = []

-- ---- the numbers of a line

-- the stocks of a store, from 0 to what it opens with
abbrev pub stocks_of : Season → ℕ → List ℕ
stocks_of season store = numbers 0 (suc (store_at season store).units)

abbrev pub full_stock : Season → ℕ → ℕ
full_stock season store = (store_at season store).units

-- the summary before the first week
abbrev pub opening : Season → Summary
opening season = summary season.rules []

-- the two values of all stores, and with the rung before them
abbrev pub two_values : ℕ × ℤ × ℤ → List ℤ
two_values answer = answer.1 ∷ answer.2 ∷ []

abbrev pub joint_numbers : ℕ × ℤ × ℤ → List ℤ
joint_numbers answer = pos answer.0 ∷ two_values answer

-- over all stores at full stocks before the first week, the sum of the path's values, and of the stores' under the multipliers
abbrev pub opening_sum : Season → (ℕ → ℕ → ℤ) → ℤ
opening_sum season value = sum_stores season (λ store. value store (full_stock season store))

-- the numbers after the key
unfoldable pub numbers_at : Season → CertEntries → Place → List ℤ
numbers_at season entries Head = []
numbers_at season entries Lengths = []
numbers_at season entries Path = map (λ week. pos (entries.rung week)) (week_numbers season)
numbers_at season entries (Mult week rung) = map (λ store. entries.mult store week rung) (store_numbers season)
numbers_at season entries (Low done store) = map (entries.low done store) (stocks_of season store)
numbers_at season entries (High done store) = map (entries.high done store) (stocks_of season store)
numbers_at season entries (Value done store s) = map (entries.value done store s) (stocks_of season store)
numbers_at season entries (Joint done s index) = joint_numbers (entries.joint done s (stocks_at season index))
numbers_at season entries Revenue = opening_sum season (entries.low 0) ∷ opening_sum season (entries.high 0) ∷ []
numbers_at season entries Bound = opening_sum season (λ store stock. entries.value 0 store (opening season) stock) ∷ []
numbers_at season entries Exact = two_values (entries.joint 0 (opening season) (full_stocks season))
numbers_at season entries End = []

-- ---- the text

-- a line without its line feed
abbrev pub line_at : Season → CertEntries → Place → List ℕ
line_at season entries place = key_text season place ++ number_fields (numbers_at season entries place)

-- the lines of some places, each ended by one line feed
abbrev pub lines_text : Season → CertEntries → List Place → List ℕ
lines_text season entries rows = flat_map (λ place. line_at season entries place ++ 10 ∷ []) rows

-- the certificate's text of some entries
abbrev pub cert_text : Season → CertEntries → List ℕ
cert_text season entries = lines_text season entries (places season)
