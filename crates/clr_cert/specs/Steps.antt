-- What comes after a place, by the kind of its line.
use Rattle.std.specs.Prelude.{ℕ, ◌+◌, ◌-◌, ◌==◌, nat_lt, if◌then◌else◌, length, Option, Some, None, slice_get}
use Rattle.clr_rules.specs.declared.season_rules.Summary.{Summary}
use Rattle.clr_rules.specs.LiveSummaries.{live_summaries}
use Rattle.clr_season.specs.Season.{Season}
use Rattle.clr_model.specs.Fits.{fits, stock_lists}
use Rattle.clr_cert.specs.declared.place.Place.{Place}
use Rattle.clr_cert.specs.declared.place.Place.TheVariants.{Lengths, Path, Mult, Low, High, Value, Joint, Revenue, Exact, End}
use Rattle.clr_cert.specs.Places.{has_lengths}

-- the first live summary after so many weeks
abbrev pub first_live : Season → ℕ → Option Summary
first_live season done = slice_get (live_summaries season.rules done) 0

abbrev pub after_head : Season → Place
after_head season = if has_lengths season then Lengths else Path

abbrev pub after_mult : Season → ℕ → ℕ → Place
after_mult season week rung =
    if nat_lt rung (length season.rules.prices) then Mult week (rung + 1) else (if nat_lt week season.rules.weeks then Mult (week + 1) 1 else Low season.rules.weeks 1)

-- of so many stores
abbrev pub after_low : ℕ → ℕ → ℕ → Place
after_low stores done store = if nat_lt store stores then Low done (store + 1) else High done 1

-- after all values of some weeks done come those of one week less
abbrev pub after_week : ℕ → Place
after_week done = if done == 0 then Revenue else Low (done - 1) 1

-- the first list of stocks of this summary, where there is one and the season fits
abbrev pub joint_or_after : Season → ℕ → Option Summary → Place
joint_or_after season done None = after_week done
joint_or_after season done (Some s) = if fits season then Joint done s 0 else after_week done

-- a store's values of this summary, where there is one
abbrev pub value_or_after : Season → ℕ → ℕ → Option Summary → Place
value_or_after season done store None = joint_or_after season done (first_live season done)
value_or_after season done store (Some s) = Value done store s

abbrev pub after_high : Season → ℕ → ℕ → Place
after_high season done store = if nat_lt store (length season.stores) then High done (store + 1) else value_or_after season done 1 (first_live season done)

-- after a store's values of a summary, where this one comes next
abbrev pub after_value : Season → ℕ → ℕ → Option Summary → Place
after_value season done store (Some s) = Value done store s
after_value season done store None = if nat_lt store (length season.stores) then value_or_after season done (store + 1) (first_live season done) else joint_or_after season done (first_live season done)

-- after a list of stocks, where this summary comes after its own
abbrev pub after_joint : Season → ℕ → Summary → ℕ → Option Summary → Place
after_joint season done s index next = if nat_lt (index + 1) (stock_lists season.stores) then Joint done s (index + 1) else joint_or_after season done next

abbrev pub after_bound : Season → Place
after_bound season = if fits season then Exact else End
