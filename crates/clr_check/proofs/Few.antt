-- How many lines a certificate can have.
use Rattle.std.proofs.Common.{◌≡◌, ℕ, ◌+◌, ◌*◌, ◌^◌, ◌<◌, ◌≤◌, Bool, true, false, cond, refl, sym, subst, arith, suc, zero, length, mul-le-mul, ◌-◌, min, leb→le, slice_get, Some}
use Rattle.std.specs.Bool.{passes}
use Rattle.std.proofs.lemmas.Bool.{and_parts}
use Rattle.std.proofs.lemmas.Option.{slice_get_within}
use Rattle.clr_season.specs.Season.{Season, IsSeason, stock_cells}
use Rattle.clr_rules.specs.LiveSummaries.{live_summaries}
use Rattle.clr_model.specs.Fits.{fits, joint_size, most_joint_size, stock_lists}
use Rattle.clr_cert.specs.declared.place.Place.{Place}
use Rattle.clr_cert.specs.Places.{has_lengths, places, walk, week_places}
use Rattle.clr_cert.proofs.Counting.{few_live, length-places, length-week, lines_below, lines_more, week_range}
use Rattle.clr_check.proofs.Rows.{length_walk}

few_lists : (season : Season) → IsSeason season → cond (fits season) (stock_lists season.stores) 0 ≤ 16032024008001
few_lists season ok = go (fits season) refl
  where
    go : (b : Bool) → fits season ≡ b → cond b (stock_lists season.stores) 0 ≤ 16032024008001
    go false e = omega arith
    go true e =
        let one = and_parts _ _ e in
        let two = and_parts _ _ one.1 in
        let three = and_parts _ _ two.1 in
        let size : joint_size season ≤ most_joint_size = leb→le _ _ (passes _ three.0) in
        let least : 1 * stock_lists season.stores ≤ stock_cells season.rules * stock_lists season.stores = mul-le-mul (cells (season.rules.weeks + 1) (length season.rules.prices) (min season.rules.markdowns (min (length season.rules.prices - 1) season.rules.weeks) + 1) season.rules.spacing (omega arith) ok.rules.ladder.some (omega arith) ok.rules.near) (omega arith) in
        omega (arith, size, least)
      where
        cells : (a b c d : ℕ) → 1 ≤ a → 1 ≤ b → 1 ≤ c → 1 ≤ d → 1 ≤ a * b * c * d
        cells a b c d p q r s = mul-le-mul (mul-le-mul (mul-le-mul p q) r) s

below : (season : Season) (done : ℕ) → IsSeason season → lines_below season done ≤ 100000000000000000 * done
below season zero ok = omega arith
below season (suc done) ok =
    let more = lines_more season done in
    let week : length (week_places season done) ≤ 100000000000000000 = subst (λ n. n ≤ 100000000000000000) (sym (length-week season done)) (week_range (length season.stores) (length (live_summaries season.rules done)) (cond (fits season) (stock_lists season.stores) 0) ok.stores.few (few_live season done ok) (few_lists season ok)) in
    omega (arith, more, week, below season done ok)

pub few_rows : (season : Season) (row : ℕ) (place : Place) → IsSeason season → slice_get (walk season) row ≡ Some place → row + 1 < 2 ^ 64
few_rows season row place ok here =
    let inside : row < length (walk season) = slice_get_within (walk season) row place here in
    let size : length (walk season) ≡ suc (length (places season)) = length_walk season in
    let all = length-places season in
    let values : lines_below season (suc season.rules.weeks) ≤ 100000000000000000 * suc season.rules.weeks = below season (suc season.rules.weeks) ok in
    let mults : season.rules.weeks * length season.rules.prices ≤ 52 * 12 = mul-le-mul ok.rules.last_week ok.rules.ladder.few in
    let a : cond (has_lengths season) 1 0 ≤ 1 = one (has_lengths season) in
    let b : cond (fits season) 1 0 ≤ 1 = one (fits season) in
    omega (arith, inside, size, all, values, mults, a, b, ok.rules.last_week)
  where
    one : (b : Bool) → cond b 1 0 ≤ 1
    one true = omega arith
    one false = omega arith
