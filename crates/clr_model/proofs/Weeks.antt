-- The sum of chances, one week and one store split off.
use Rattle.std.proofs.Common.{Bool, true, false, cond, ◌==◌, ◌-ℤ◌, ◌≡◌, ℕ, ◌+◌, ◌-◌, ◌*◌, ◌^◌, ◌<◌, ◌≤◌, min, ℤ, pos, ◌+ℤ◌, ◌*ℤ◌, refl, sym, ap, ap₂, ◌∙◌, subst, arith, suc, zero, List, [], ◌∷◌, map, get_or, length, take, sum, mul_comm, pow-add}
use Rattle.std.proofs.lemmas.List.{get_or_past}
use Rattle.std.proofs.lemmas.List.Sums.{sum_by-cons, sum_by_more}
use native.Mathlib.Nat.{pow-zero, mul-suc, mul-zero}
use lib.IntN.{*ℤ_comm}
use Rattle.clr_num.specs.Lists.{all_lists}
use Rattle.clr_rules.specs.Rules.{price}
use Rattle.clr_season.specs.Season.{Season, IsSeason, IsPlace, demands, weight, weights_of, store_at}
use Rattle.clr_num.specs.Sums.{sum_over, sum_of, product_of}
use Rattle.clr_model.specs.Policies.{Tree, stop, node, branch, joint_demands, outcomes, IsWhole}
use Rattle.clr_model.specs.Revenue.{left, week_cents, salvage_cents, sum_stores, of_store, stocks_left, sold, fee, markdowns_after, store_revenue, revenue}
use Rattle.clr_model.specs.Expected.{week_chance, chance, den, earned}
use Rattle.clr_model.specs.Laws.{OneStoreSplitOff, OneWeekSplitOff, ChancesSum, SoldInAWeek}
use Rattle.clr_average.proofs.Ring.{linear, mul_add, mul_assoc}
use Rattle.clr_average.specs.Average.{mass}
use Rattle.clr_average.proofs.Masses.{mass_is_sum}
use Rattle.clr_model.proofs.Rows.{weights_sum}
use Rattle.clr_average.proofs.Sums.{sum_over-same, sum_over-add, sum_over-scale, sum_over-scale_right}
use Rattle.clr_model.proofs.Sums.{sum_over-same_among, sum_over-all_lists, All-imply, sum_of-same, sum_of-add, joint_mass, joint_split_some}

-- ---- weights

-- at a store, in a week on a rung
pub store_mass : (season : Season) (week rung : ℕ) → IsSeason season → 1 ≤ week → week ≤ season.rules.weeks → 1 ≤ rung → rung ≤ length season.rules.prices →
    (i : ℕ) → i < length season.stores → sum_over (demands season) (λ demand. pos (weight season (suc i) week rung demand)) ≡ pos season.base
store_mass season week rung ok w1 w2 r1 r2 i p =
    let place : IsPlace season (suc i) week rung = record { first_store = omega arith; last_store = omega arith; first_week = w1; last_week = w2; first_rung = r1; last_rung = r2 } in
    let weights : List ℕ = weights_of season (suc i) week rung in
    weights_sum weights 0 [] 0 (λ d past. get_or_past weights d 0 past) (suc season.top)
    ∙ ap pos (ap (mass weights) (sym (ok.sizes (suc i) week rung place)) ∙ (mass_is_sum weights ∙ ok.sums (suc i) week rung place))

pub week_mass : (season : Season) (week rung : ℕ) → IsSeason season → 1 ≤ week → week ≤ season.rules.weeks → 1 ≤ rung → rung ≤ length season.rules.prices →
    sum_over (joint_demands season) (week_chance season week rung) ≡ pos (season.base ^ length season.stores)
week_mass season week rung ok w1 w2 r1 r2 =
    joint_mass (demands season) (length season.stores) (λ i demand. pos (weight season (suc i) week rung demand)) season.base (store_mass season week rung ok w1 w2 r1 r2)

-- ---- one store split off

pub one_store_split_off_lem : OneStoreSplitOff
one_store_split_off_lem season week rung f ok w1 w2 r1 r2 = go (length season.stores) refl
  where
    go : (n : ℕ) → length season.stores ≡ n →
        sum_over (joint_demands season) (λ asked. week_chance season week rung asked *ℤ sum_stores season (λ store. f store (of_store asked store)))
        ≡ pos (season.base ^ (length season.stores - 1)) *ℤ sum_stores season (λ store. sum_over (demands season) (λ demand. pos (weight season store week rung demand) *ℤ f store demand))
    go zero e = absurd (none ok.some)
      where
        none : 1 ≤ length season.stores → ⊥
        none h = omega arith
    go (suc n) e =
        let mass : (i : ℕ) → i < suc n → sum_over (demands season) (λ demand. pos (weight season (suc i) week rung demand)) ≡ pos season.base
        = λ i p. store_mass season week rung ok w1 w2 r1 r2 i (omega arith) in
        let minus : suc n - 1 ≡ n = omega arith in
        subst (λ k. sum_over (all_lists (demands season) k) (λ asked. product_of k (λ i. pos (weight season (suc i) week rung (get_or asked i 0))) *ℤ sum_of k (λ i. f (suc i) (get_or asked i 0)))
        ≡ pos (season.base ^ (k - 1)) *ℤ sum_of k (λ i. sum_over (demands season) (λ demand. pos (weight season (suc i) week rung demand) *ℤ f (suc i) demand))) (sym e)
        (rw minus (joint_split_some (demands season) n (λ i demand. pos (weight season (suc i) week rung demand)) (λ i. f (suc i)) season.base mass))

-- ---- the sum of chances

pub den_zero : (season : Season) → den season zero ≡ pos 1
den_zero season = ap pos (ap (λ t. season.base ^ t) (mul-zero (length season.stores)) ∙ pow-zero season.base)

pub den_suc : (season : Season) (weeks : ℕ) → den season (suc weeks) ≡ pos (season.base ^ length season.stores) *ℤ den season weeks
den_suc season weeks =
    ap pos (ap (λ t. season.base ^ t) (mul-suc (length season.stores) weeks) ∙ (pow-add season.base (length season.stores * weeks) (length season.stores) ∙ mul_comm (season.base ^ (length season.stores * weeks)) (season.base ^ length season.stores)))

pub chances_sum_lem : ChancesSum
chances_sum_lem season done zero stop ok fits whole = sym (den_zero season)
chances_sum_lem season done zero (node rung kids) ok fits whole = absurd whole
chances_sum_lem season done (suc weeks) stop ok fits whole = absurd whole
chances_sum_lem season done (suc weeks) (node rung kids) ok fits whole =
    sum_over-all_lists (joint_demands season) weeks (λ outcome. chance season done (branch (node rung kids) outcome) outcome)
    ∙ (sum_over-same_among (joint_demands season)
    (λ week. sum_over (outcomes season weeks) (λ outcome. week_chance season (suc done) rung week *ℤ chance season (suc done) (branch (kids week) outcome) outcome))
    (λ week. week_chance season (suc done) rung week *ℤ den season weeks)
    (All-imply (λ week. IsWhole season weeks (kids week)) _ (joint_demands season)
    (λ week h. sum_over-scale (outcomes season weeks) (week_chance season (suc done) rung week) (λ outcome. chance season (suc done) (branch (kids week) outcome) outcome)
    ∙ ap (λ t. week_chance season (suc done) rung week *ℤ t) (chances_sum_lem season (suc done) weeks (kids week) ok (omega arith) h))
    whole.2)
    ∙ (sum_over-scale_right (joint_demands season) (den season weeks) (week_chance season (suc done) rung)
    ∙ (ap (λ t. t *ℤ den season weeks) (week_mass season (suc done) rung ok (omega arith) (omega arith) whole.0 whole.1)
    ∙ sym (den_suc season weeks))))

-- ---- revenue week by week

pub sold-cons : (stock demand : ℕ) (asked : List ℕ) (weeks : ℕ) → sold stock (demand ∷ asked) (suc weeks) ≡ min stock demand + sold (left stock demand) asked weeks
sold-cons stock demand asked weeks =
    let e : sum (demand ∷ take weeks asked) ≡ demand + sum (take weeks asked) = sum_by-cons (λ x. x) demand (take weeks asked) in
    ap (min stock) e ∙ parts stock demand (sum (take weeks asked))
  where
    parts : (s d a : ℕ) → min s (d + a) ≡ min s d + min (s - min s d) a
    parts s d a = omega arith

sold-zero : (stock : ℕ) (asked : List ℕ) → sold stock asked zero ≡ 0
sold-zero stock asked = omega arith

pub store_revenue-cons : (season : Season) (store before stock rung : ℕ) (path : List ℕ) (demand : ℕ) (asked : List ℕ) →
    store_revenue season store before stock (rung ∷ path) (demand ∷ asked) ≡ week_cents season store before rung stock demand +ℤ store_revenue season store rung (left stock demand) path asked
unfolding week_cents
store_revenue-cons season store before stock rung path demand asked =
    ap₂ ◌-ℤ◌ (ap₂ ◌+ℤ◌ (ap₂ ◌+ℤ◌ first (sum_of-same (length path) _ _ later)) (ap (λ t. salvage_cents season store t) last)) (ap pos (paid (rung == before) (store_at season store).relabel (markdowns_after rung path)))
    ∙ regrouped (pos (price season.rules rung * min stock demand)) (sum_of (length path) (λ i. pos (price season.rules (get_or path i 0) * (sold (left stock demand) asked (suc i) - sold (left stock demand) asked i)))) (salvage_cents season store (left stock demand - sold (left stock demand) asked (length path))) (fee season store before rung) ((store_at season store).relabel * markdowns_after rung path)
  where
    paid : (b : Bool) (c k : ℕ) → c * (cond b 0 1 + k) ≡ cond b 0 c + c * k
    paid true c k = omega arith
    paid false c k = omega arith

    regrouped : (g s v : ℤ) (f k : ℕ) → g +ℤ s +ℤ v -ℤ pos (f + k) ≡ (g -ℤ pos f) +ℤ (s +ℤ v -ℤ pos k)
    regrouped g s v f k = omega (arith, linear)

    first : pos (price season.rules rung * (sold stock (demand ∷ asked) (suc zero) - sold stock (demand ∷ asked) zero)) ≡ pos (price season.rules rung * min stock demand)
    first = ap (λ t. pos (price season.rules rung * t)) (part _ _ _ _ (sold-cons stock demand asked zero) (sold-zero stock (demand ∷ asked)) (sold-zero (left stock demand) asked))
      where
        part : (a b c m : ℕ) → a ≡ m + c → b ≡ 0 → c ≡ 0 → a - b ≡ m
        part a b c m e f g = omega arith

    later : (i : ℕ) → i < length path →
        pos (price season.rules (get_or path i 0) * (sold stock (demand ∷ asked) (suc (suc i)) - sold stock (demand ∷ asked) (suc i)))
        ≡ pos (price season.rules (get_or path i 0) * (sold (left stock demand) asked (suc i) - sold (left stock demand) asked i))
    later i p = ap (λ t. pos (price season.rules (get_or path i 0) * t)) (part _ _ _ _ _ (sold-cons stock demand asked (suc i)) (sold-cons stock demand asked i))
      where
        part : (a b c e m : ℕ) → a ≡ m + c → b ≡ m + e → a - b ≡ c - e
        part a b c e m p q = omega arith

    last : stock - sold stock (demand ∷ asked) (suc (length path)) ≡ left stock demand - sold (left stock demand) asked (length path)
    last = part _ _ _ _ (sold-cons stock demand asked (length path))
      where
        part : (s a m c : ℕ) → a ≡ m + c → s - a ≡ s - m - c
        part s a m c e = omega arith

pub of_store-stocks_left : (stocks week : List ℕ) (i : ℕ) → get_or (stocks_left stocks week) i 0 ≡ left (get_or stocks i 0) (get_or week i 0)
of_store-stocks_left [] week i = omega arith
of_store-stocks_left (stock ∷ stocks) [] i = omega arith
of_store-stocks_left (stock ∷ stocks) (demand ∷ week) zero = refl
of_store-stocks_left (stock ∷ stocks) (demand ∷ week) (suc i) = of_store-stocks_left stocks week i

pub revenue-cons : (season : Season) (before : ℕ) (stocks : List ℕ) (rung : ℕ) (path : List ℕ) (week : List ℕ) (outcome : List (List ℕ)) →
    revenue season before stocks (rung ∷ path) (week ∷ outcome)
    ≡ sum_stores season (λ store. week_cents season store before rung (of_store stocks store) (of_store week store)) +ℤ revenue season rung (stocks_left stocks week) path outcome
revenue-cons season before stocks rung path week outcome =
    sum_of-same (length season.stores) _ (λ i. week_cents season (suc i) before rung (get_or stocks i 0) (get_or week i 0) +ℤ store_revenue season (suc i) rung (get_or (stocks_left stocks week) i 0) path (map (λ w. get_or w i 0) outcome))
    (λ i p. store_revenue-cons season (suc i) before (get_or stocks i 0) rung path (get_or week i 0) (map (λ w. get_or w i 0) outcome)
    ∙ ap (λ t. week_cents season (suc i) before rung (get_or stocks i 0) (get_or week i 0) +ℤ store_revenue season (suc i) rung t path (map (λ w. get_or w i 0) outcome)) (sym (of_store-stocks_left stocks week i)))
    ∙ sum_of-add (length season.stores) (λ i. week_cents season (suc i) before rung (get_or stocks i 0) (get_or week i 0)) (λ i. store_revenue season (suc i) rung (get_or (stocks_left stocks week) i 0) path (map (λ w. get_or w i 0) outcome))

-- ---- one week split off

-- what outcomes after a week give
week_part : (season : Season) (done weeks before : ℕ) (stocks : List ℕ) (rung : ℕ) (tree : Tree) (week : List ℕ) → IsSeason season → done + suc weeks ≤ season.rules.weeks → IsWhole season weeks tree →
    sum_over (outcomes season weeks) (λ outcome. (week_chance season (suc done) rung week *ℤ chance season (suc done) (branch tree outcome) outcome) *ℤ revenue season before stocks (rung ∷ branch tree outcome) (week ∷ outcome))
    ≡ week_chance season (suc done) rung week *ℤ (sum_stores season (λ store. week_cents season store before rung (of_store stocks store) (of_store week store)) *ℤ den season weeks +ℤ earned season (suc done) weeks rung (stocks_left stocks week) tree)
unfolding earned
week_part season done weeks before stocks rung tree week ok fits whole =
    let wc : ℤ = week_chance season (suc done) rung week in
    let cents : ℤ = sum_stores season (λ store. week_cents season store before rung (of_store stocks store) (of_store week store)) in
    let ch : List (List ℕ) → ℤ = λ outcome. chance season (suc done) (branch tree outcome) outcome in
    let rev : List (List ℕ) → ℤ = λ outcome. revenue season rung (stocks_left stocks week) (branch tree outcome) outcome in
    sum_over-same (outcomes season weeks) _ (λ outcome. wc *ℤ (cents *ℤ ch outcome +ℤ ch outcome *ℤ rev outcome))
    (λ outcome. ap (λ t. (wc *ℤ ch outcome) *ℤ t) (revenue-cons season before stocks rung (branch tree outcome) week outcome) ∙ parts wc (ch outcome) cents (rev outcome))
    ∙ (sum_over-scale (outcomes season weeks) wc (λ outcome. cents *ℤ ch outcome +ℤ ch outcome *ℤ rev outcome)
    ∙ ap (λ t. wc *ℤ t)
    (sum_over-add (outcomes season weeks) (λ outcome. cents *ℤ ch outcome) (λ outcome. ch outcome *ℤ rev outcome)
    ∙ ap (λ t. t +ℤ sum_over (outcomes season weeks) (λ outcome. ch outcome *ℤ rev outcome))
    (sum_over-scale (outcomes season weeks) cents ch ∙ ap (λ t. cents *ℤ t) (chances_sum_lem season (suc done) weeks tree ok (omega arith) whole))))
  where
    parts : (a b c d : ℤ) → (a *ℤ b) *ℤ (c +ℤ d) ≡ a *ℤ (c *ℤ b +ℤ b *ℤ d)
    parts a b c d = mul_assoc a b (c +ℤ d) ∙ ap (λ t. a *ℤ t) (mul_add b c d ∙ ap (λ t. t +ℤ b *ℤ d) (*ℤ_comm b c))

pub one_week_split_off_lem : OneWeekSplitOff
unfolding earned
one_week_split_off_lem season done weeks before stocks rung kids ok fits whole =
    sum_over-all_lists (joint_demands season) weeks (λ outcome. chance season done (branch (node rung kids) outcome) outcome *ℤ revenue season before stocks (branch (node rung kids) outcome) outcome)
    ∙ sum_over-same_among (joint_demands season) _ _
    (All-imply (λ week. IsWhole season weeks (kids week)) _ (joint_demands season)
    (λ week h. week_part season done weeks before stocks rung (kids week) week ok fits h)
    whole.2)

-- ---- what is sold in a week

sum_take-suc : (asked : List ℕ) (i : ℕ) → i < length asked → sum (take (i + 1) asked) ≡ sum (take i asked) + get_or asked i 0
sum_take-suc asked i p = sum_by_more (λ x. x) asked i 0 p

pub sold_in_a_week_lem : SoldInAWeek
sold_in_a_week_lem stock asked weeks p =
    let e : sum (take (weeks + 1) asked) ≡ sum (take weeks asked) + get_or asked weeks 0 = sum_take-suc asked weeks (omega arith) in
    ap (λ t. min stock t - sold stock asked weeks) e ∙ parts stock (sum (take weeks asked)) (get_or asked weeks 0)
  where
    parts : (s a d : ℕ) → min s (a + d) - min s a ≡ min (s - min s a) d
    parts s a d = omega arith
