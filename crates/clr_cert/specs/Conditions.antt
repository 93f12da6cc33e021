-- What the numbers of a certificate must meet, line by line. Nothing is rounded.
use Rattle.std.specs.Prelude.{ℕ, suc, ◌==◌, Bool, if◌then◌else◌, List, [], ◌∷◌, map, take, get_or, ℤ, pos, int_le, ◌-ℤ◌, ◌*ℤ◌, ◌&&◌}
use Rattle.std.specs.List.{filter, flat_map}
use Rattle.clr_rules.specs.declared.season_rules.Summary.{Summary}
use Rattle.clr_rules.specs.LiveSummaries.{leads_at}
use Rattle.clr_rules.specs.Rules.{is_live, next_summary, rung_at, rungs}
use Rattle.clr_season.specs.Season.{Season}
use Rattle.clr_model.specs.Revenue.{cent, full_stocks, salvage_cents, sum_stores}
use Rattle.clr_model.specs.JointValue.{end_value}
use Rattle.clr_model.specs.JointWeek.{joint_base, joint_weighed}
use Rattle.clr_model.specs.PathValue.{weighed}
use Rattle.clr_cert.specs.declared.place.Place.{Place}
use Rattle.clr_cert.specs.declared.place.Place.TheVariants.{Head, Lengths, Path, Mult, Low, High, Value, Joint, Revenue, Bound, Exact, End}
use Rattle.clr_cert.specs.declared.no.NoKind.{NoKind}
use Rattle.clr_cert.specs.declared.no.NoKind.TheVariants as kind
use Rattle.clr_cert.specs.Entries.{CertEntries}
use Rattle.clr_cert.specs.Lines.{full_stock, opening, stocks_at, stocks_of}
use Rattle.clr_cert.specs.Places.{week_numbers}

-- a condition: its two sides, whether it holds, and what is wrong where it doesn't
pub record Condition : Type 0 where
  pub kind : NoKind
  pub holds : Bool
  pub left : ℤ
  pub right : ℤ

abbrev pub at_most : NoKind → ℤ → ℤ → Condition
at_most kind left right = record { kind = kind; holds = int_le left right; left = left; right = right }

abbrev pub at_least : NoKind → ℤ → ℤ → Condition
at_least kind left right = record { kind = kind; holds = int_le right left; left = left; right = right }

abbrev pub equal : NoKind → ℤ → ℤ → Condition
equal kind left right = record { kind = kind; holds = int_le left right && int_le right left; left = left; right = right }

-- ---- the path and the multipliers

abbrev pub path_of : Season → CertEntries → List ℕ
path_of season entries = map entries.rung (week_numbers season)

-- the path's first weeks, up to this one, can be made a path that obeys
abbrev pub path_condition : Season → List ℕ → ℕ → Condition
path_condition season path week = record { kind = kind.Path; holds = is_live season.rules (take week path); left = pos week; right = pos (rung_at path week) }

abbrev pub mult_condition : Season → CertEntries → ℕ → ℕ → Condition
mult_condition season entries week rung = equal kind.Sum (sum_stores season (λ store. entries.mult store week rung)) (pos 0)

-- ---- one store

-- what a stock is worth at the end
abbrev pub end_worth : Season → ℕ → ℕ → ℤ
end_worth season store stock = pos cent *ℤ salvage_cents season store stock

-- The weights times (what the store earns on the path's rung of the next week, after the rung of the week before, and the entry
-- after it), summed over the demands.
abbrev pub path_sum : Season → List ℕ → (ℕ → ℕ → ℕ → ℤ) → ℕ → ℕ → ℕ → ℤ
path_sum season path table done store stock = weighed season store done (rung_at path done) (rung_at path (suc done)) stock (table (suc done) store)

-- an entry of a path's table times the base is compared with this sum, and at the end the entry with what the stock is worth
abbrev pub path_entry : (ℤ → ℤ → Condition) → Season → List ℕ → (ℕ → ℕ → ℕ → ℤ) → ℕ → ℕ → ℕ → Condition
path_entry compare season path table done store stock =
    if done == season.rules.weeks
    then compare (table done store stock) (end_worth season store stock)
    else compare (table done store stock *ℤ pos season.base) (path_sum season path table done store stock)

-- the rungs after which a summary is live, the least first
abbrev pub leading_rungs : Season → ℕ → Summary → List ℕ
leading_rungs season done s = filter (leads_at season.rules done s) (rungs season.rules)

-- The entry less the rung's multiplier, times the base, is at least the sum over the demands of the weights times (what the store
-- earns on the rung and the entry after it).
abbrev pub value_condition : Season → CertEntries → ℕ → ℕ → Summary → ℕ → ℕ → Condition
value_condition season entries done store s stock rung =
    at_least kind.Value ((entries.value done store s stock -ℤ entries.mult store (suc done) rung) *ℤ pos season.base)
    (weighed season store done s.last rung stock (entries.value (suc done) store (next_summary season.rules s rung)))

-- for each live rung, and at the end for what the stock is worth
abbrev pub value_conditions : Season → CertEntries → ℕ → ℕ → Summary → ℕ → List Condition
value_conditions season entries done store s stock =
    if done == season.rules.weeks
    then at_least kind.Value (entries.value done store s stock) (end_worth season store stock) ∷ []
    else map (value_condition season entries done store s stock) (leading_rungs season done s)

-- ---- all stores together

-- The product of the weights times (what all stores earn on a rung and the number after it), summed over the joint demands.
abbrev pub joint_sum : Season → ℕ → Summary → ℕ → List ℕ → (List ℕ → ℤ) → ℤ
joint_sum season done s rung stocks after = joint_weighed season done s.last rung stocks (λ week rest. after rest)

-- the two numbers of all stores after a rung
abbrev pub low_after : Season → CertEntries → ℕ → Summary → ℕ → List ℕ → ℤ
low_after season entries done s rung rest = (entries.joint (suc done) (next_summary season.rules s rung) rest).1

abbrev pub top_after : Season → CertEntries → ℕ → Summary → ℕ → List ℕ → ℤ
top_after season entries done s rung rest = (entries.joint (suc done) (next_summary season.rules s rung) rest).2

-- the line's rung is live
abbrev pub rung_condition : Season → ℕ → Summary → ℕ → Condition
rung_condition season done s rung = record { kind = kind.Rung; holds = leads_at season.rules done s rung; left = pos (suc done); right = pos rung }

-- the low number times the base to the number of stores is at most the joint sum on the line's rung
abbrev pub joint_low_condition : Season → CertEntries → ℕ → Summary → List ℕ → ℕ × ℤ × ℤ → Condition
joint_low_condition season entries done s stocks answer =
    at_most kind.JointLow (answer.1 *ℤ pos (joint_base season)) (joint_sum season done s answer.0 stocks (low_after season entries done s answer.0))

-- the top number times the same is at least the joint sum on a live rung
abbrev pub joint_top_condition : Season → CertEntries → ℕ → Summary → List ℕ → ℤ → ℕ → Condition
joint_top_condition season entries done s stocks top rung =
    at_least kind.JointTop (top *ℤ pos (joint_base season)) (joint_sum season done s rung stocks (top_after season entries done s rung))

-- before a week; and at the end, for what the stocks are worth
abbrev pub joint_conditions : Season → CertEntries → ℕ → Summary → List ℕ → ℕ × ℤ × ℤ → List Condition
joint_conditions season entries done s stocks answer =
    if done == season.rules.weeks
    then at_most kind.JointLow answer.1 (end_value season stocks) ∷ at_least kind.JointTop answer.2 (end_value season stocks) ∷ []
    else rung_condition season done s answer.0 ∷ joint_low_condition season entries done s stocks answer ∷ map (joint_top_condition season entries done s stocks answer.2) (leading_rungs season done s)

-- ---- the totals

-- the sum over the stores of a table's entries before the first week, at full stocks
abbrev pub opening_total : Season → (ℕ → ℕ → ℕ → ℤ) → ℤ
opening_total season table = sum_stores season (λ store. table 0 store (full_stock season store))

abbrev pub total : List ℤ → ℕ → ℤ → Condition
total numbers index sum = equal kind.Total (get_or numbers index (pos 0)) sum

-- ---- a line

-- The conditions of the line of a place with these numbers, in the order in which they are judged. The entries are those of this line
-- and of the lines before it.
unfoldable pub conditions : Season → CertEntries → List ℤ → Place → List Condition
conditions season entries numbers Head = []
conditions season entries numbers Lengths = []
conditions season entries numbers Path = map (path_condition season (path_of season entries)) (week_numbers season)
conditions season entries numbers (Mult week rung) = mult_condition season entries week rung ∷ []
conditions season entries numbers (Low done store) = map (path_entry (at_most kind.Low) season (path_of season entries) entries.low done store) (stocks_of season store)
conditions season entries numbers (High done store) = map (path_entry (at_least kind.High) season (path_of season entries) entries.high done store) (stocks_of season store)
conditions season entries numbers (Value done store s) = flat_map (value_conditions season entries done store s) (stocks_of season store)
conditions season entries numbers (Joint done s index) = joint_conditions season entries done s (stocks_at season index) (entries.joint done s (stocks_at season index))
conditions season entries numbers Revenue = total numbers 0 (opening_total season entries.low) ∷ total numbers 1 (opening_total season entries.high) ∷ []
conditions season entries numbers Bound = total numbers 0 (opening_total season (λ done store. entries.value done store (opening season))) ∷ []
conditions season entries numbers Exact =
    let answer = entries.joint 0 (opening season) (full_stocks season) in total numbers 0 answer.1 ∷ total numbers 1 answer.2 ∷ []
conditions season entries numbers End = []
