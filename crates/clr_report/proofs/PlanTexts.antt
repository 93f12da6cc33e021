-- The plan report tells its numbers.
use Rattle.std.proofs.Common.{◌≡◌, Bool, true, false, if◌then◌else◌, Option, None, Some, IfSome, ap, ℕ, ◌<◌, ◌≤◌, ◌^◌, zero, suc, ℤ, ◌-ℤ◌, List, [], ◌∷◌, ◌++◌, map, All, length, get_or, unsigned_abs, codes, decimal, refl, sym, ◌∙◌, arith, append_assoc}
use Rattle.std.specs.List.{flat_map}
use Rattle.std.proofs.lemmas.Int.{ints}
use Rattle.std.proofs.lemmas.List.{append-nil, get_or_default}
use Rattle.clr_num.specs.Money.{cents_text, money_text}
use Rattle.clr_num.specs.Prices.{IsLadder}
use Rattle.clr_num.proofs.Fields.{Above, above_lower, above-decimal, decimal_wide_injective}
use Rattle.clr_num.proofs.MoneyTexts.{money_determines, above-money, above-cents}
use Rattle.clr_average.specs.Average.{IsWithin}
use Rattle.clr_rules.specs.Rules.{IsPath, Rulebook, price}
use Rattle.clr_season.specs.Season.{Season, IsSeason}
use Rattle.clr_model.proofs.Ladders.{path_on_ladder}
use Rattle.clr_report.specs.declared.plan.PlanFacts.{PlanFacts}
use Rattle.clr_report.specs.declared.plan.PlanSizes.{PlanSizes}
use Rattle.clr_report.specs.Lines.{line}
use Rattle.clr_report.specs.PlanText.{best_line, bound_line, exact_line, gap_line, path_line, plan_text, prices_line, revenue_line, season_line, sizes_of, IsExactOf, IsPlanOf, PlanTextDetermines}
use Rattle.clr_report.proofs.Gaps.{gap_within}
use Rattle.clr_report.proofs.Cuts.{AreLines, AreWords, HasWords, lines_determine}

-- ---- one kind of word, and its list

decimal_word : (n : ℕ) → n < 2 ^ 32 → Above 32 (decimal n)
decimal_word n h = above_lower 32 47 (decimal n) (omega arith) (above-decimal n (omega arith))

same_decimal : (m n : ℕ) → m < 2 ^ 32 → n < 2 ^ 32 → decimal m ≡ decimal n → m ≡ n
same_decimal m n a b e = decimal_wide_injective m n (omega arith) (omega arith) e

cents_word : (n : ℕ) → n < 2 ^ 64 → Above 32 (cents_text n)
cents_word n h = above_lower 32 44 (cents_text n) (omega arith) (above-cents n h)

words : (f : ℕ → List ℕ) (bound : ℕ) → ((n : ℕ) → n < bound → Above 32 (f n)) → (xs : List ℕ) → All (λ x. x < bound) xs → AreWords (map f xs)
words f bound word [] h = tt
words f bound word (x ∷ xs) h = (word x (h 0 0 (omega arith)), words f bound word xs (λ k d lt. h (suc k) d (omega arith)))

same_items : (f : ℕ → List ℕ) (bound : ℕ) → ((m n : ℕ) → m < bound → n < bound → f m ≡ f n → m ≡ n) → (xs ys : List ℕ) → All (λ x. x < bound) xs → All (λ y. y < bound) ys → map f xs ≡ map f ys → xs ≡ ys
same_items f bound same [] [] p q e = refl
same_items f bound same [] (y ∷ ys) p q e = cc
same_items f bound same (x ∷ xs) [] p q e = cc
same_items f bound same (x ∷ xs) (y ∷ ys) p q e =
    let first : f x ≡ f y = cc in
    let rest : map f xs ≡ map f ys = cc in
    let one : x ≡ y = same x y (p 0 0 (omega arith)) (q 0 0 (omega arith)) first in
    let others : xs ≡ ys = same_items f bound same xs ys (λ k d lt. p (suc k) d (omega arith)) (λ k d lt. q (suc k) d (omega arith)) rest in
    cc (one, others)

-- ---- for one season

-- rungs of a ladder fit their type
rungs_fit : (book : Rulebook) (path : List ℕ) → IsLadder book.prices → IsPath book path → All (λ rung. rung < 2 ^ 32) path
rungs_fit book path ladder is = λ k d lt.
    let same : get_or path k d ≡ get_or path k 1 = get_or_default path k d 1 lt in
    let high : get_or path k 1 ≤ length book.prices = (path_on_ladder book path is k lt).1 in
    let few : length book.prices ≤ 12 = ladder.few in
    omega (arith, same, high, few)

small_at : (xs : List ℕ) → ((i : ℕ) → i < length xs → get_or xs i 0 ≤ 10000000) → (i : ℕ) → get_or xs i 0 ≤ 10000000
small_at [] h i = omega arith
small_at (x ∷ xs) h zero = h 0 (omega arith)
small_at (x ∷ xs) h (suc i) = small_at xs (λ j lt. h (suc j) (omega arith)) i

price_small : (book : Rulebook) → IsLadder book.prices → (rung : ℕ) → price book rung ≤ 10000000
price_small book ladder zero = omega arith
price_small book ladder (suc i) = small_at book.prices ladder.most i

prices_fit : (book : Rulebook) → IsLadder book.prices → (path : List ℕ) → All (λ price. price < 2 ^ 64) (map (price book) path)
prices_fit book ladder [] = λ k d lt. absurd (omega arith)
prices_fit book ladder (rung ∷ path) = elim [
  | zero ↦ λ d lt. let small : price book rung ≤ 10000000 = price_small book ladder rung in omega (arith, small)
  | suc k ↦ λ d lt. prices_fit book ladder path k d (omega arith)
]

money_fits : (limit : ℕ) (z : ℤ) → limit ≤ 2 ^ 127 → IsWithin limit z → unsigned_abs z ≤ 2 ^ 127
money_fits limit z small h = let low = h.low in let high = h.high in omega (arith, ints, low, high)

amount_fits : (z : ℤ) → IsWithin 100000000000000000000 z → unsigned_abs z ≤ 2 ^ 127
amount_fits z h = money_fits 100000000000000000000 z (omega arith) h

gap_abs : (bound low : ℤ) → IsWithin 100000000000000000000 bound → IsWithin 100000000000000000000 low → unsigned_abs (bound -ℤ low) ≤ 2 ^ 127
gap_abs bound low h k = money_fits 200000000000000000000 (bound -ℤ low) (omega arith) (gap_within bound low h k)

money_word : (z : ℤ) → unsigned_abs z ≤ 2 ^ 127 → Above 32 (money_text z)
money_word z h = above_lower 32 44 (money_text z) (omega arith) (above-money z h)

-- ---- the words of each line

abbrev season_words : PlanSizes → List (List ℕ)
season_words sizes = codes "season" ∷ decimal sizes.stores ∷ codes "stores" ∷ decimal sizes.weeks ∷ codes "weeks" ∷ decimal sizes.rungs ∷ codes "rungs" ∷ codes "base" ∷ decimal sizes.base ∷ []

abbrev path_words : List ℕ → List (List ℕ)
path_words rungs = codes "path" ∷ map decimal rungs

abbrev prices_words : List ℕ → List (List ℕ)
prices_words prices = codes "prices" ∷ map cents_text prices

abbrev revenue_words : ℤ → ℤ → List (List ℕ)
revenue_words low high = codes "revenue" ∷ money_text low ∷ money_text high ∷ []

abbrev best_word : Bool → List ℕ
best_word best = if best then codes "yes" else codes "open"

abbrev best_words : Bool → List (List ℕ)
best_words best = codes "best" ∷ best_word best ∷ []

abbrev bound_words : ℤ → ℕ → List (List ℕ)
bound_words bound step = codes "bound" ∷ money_text bound ∷ codes "step" ∷ decimal step ∷ []

abbrev gap_words : ℤ → List (List ℕ)
gap_words gap = codes "gap" ∷ money_text gap ∷ []

abbrev exact_words : ℤ → ℤ → ℕ → List (List ℕ)
exact_words low top rung = codes "exact" ∷ money_text low ∷ money_text top ∷ codes "first" ∷ decimal rung ∷ []

-- the words of the line on all stores together, where there is one
abbrev exact_lines : Option (ℤ × ℤ × ℕ) → List (List (List ℕ))
exact_lines None = []
exact_lines (Some (low, top, rung)) = exact_words low top rung ∷ []

abbrev plan_words : Season → PlanFacts → List (List (List ℕ))
plan_words season facts =
    season_words (sizes_of season)
    ∷ path_words facts.path
    ∷ prices_words (map (price season.rules) facts.path)
    ∷ revenue_words facts.low facts.high
    ∷ best_words facts.best
    ∷ bound_words facts.bound facts.at_step
    ∷ gap_words (facts.bound -ℤ facts.low)
    ∷ exact_lines facts.exact

in_a_row : (a b c d e f g h : List ℕ) → a ++ b ++ c ++ d ++ e ++ f ++ g ++ h ≡ a ++ (b ++ (c ++ (d ++ (e ++ (f ++ (g ++ h))))))
in_a_row a b c d e f g h = simp append_assoc

exact_by_lines : (exact : Option (ℤ × ℤ × ℕ)) → exact_line exact ≡ flat_map line (exact_lines exact)
exact_by_lines None = refl
exact_by_lines (Some (low, top, rung)) = sym (append-nil (line (exact_words low top rung)))

by_lines : (season : Season) (facts : PlanFacts) → plan_text season facts ≡ flat_map line (plan_words season facts)
unfolding plan_text
by_lines season facts =
    ap (λ t. season_line (sizes_of season) ++ path_line facts.path ++ prices_line (map (price season.rules) facts.path) ++ revenue_line facts.low facts.high ++ best_line facts.best ++ bound_line facts.bound facts.at_step ++ gap_line (facts.bound -ℤ facts.low) ++ t) (exact_by_lines facts.exact)
    ∙ in_a_row (season_line (sizes_of season)) (path_line facts.path) (prices_line (map (price season.rules) facts.path)) (revenue_line facts.low facts.high) (best_line facts.best) (bound_line facts.bound facts.at_step) (gap_line (facts.bound -ℤ facts.low)) (flat_map line (exact_lines facts.exact))

season_has_words : (season : Season) → IsSeason season → HasWords (season_words (sizes_of season))
season_has_words season is =
    let stores = is.stores.few in
    let weeks = is.rules.last_week in
    let ladder = is.rules.ladder.few in
    let base = is.most_base in
    (omega arith, (decimal_word (length season.stores) (omega (arith, stores)), (omega arith, (decimal_word season.rules.weeks (omega (arith, weeks)), (omega arith, (decimal_word (length season.rules.prices) (omega (arith, ladder)), (omega arith, (omega arith, (decimal_word season.base (omega (arith, base)), tt)))))))))

above_best : (best : Bool) → Above 32 (best_word best)
above_best true = omega arith
above_best false = omega arith

rung_fits : (season : Season) (exact : ℤ × ℤ × ℕ) → IsSeason season → IsExactOf season exact → exact.2 < 2 ^ 32
rung_fits season exact is h = let few = is.rules.ladder.few in let last = h.last in omega (arith, few, last)

exact_are_lines : (season : Season) (exact : Option (ℤ × ℤ × ℕ)) → IsSeason season → IfSome exact (IsExactOf season) → AreLines (exact_lines exact)
exact_are_lines season None is h = tt
exact_are_lines season (Some (low, top, rung)) is h =
    ((omega arith, (money_word low (amount_fits low h.low), (money_word top (amount_fits top h.top), (omega arith, (decimal_word rung (rung_fits season (low, top, rung) is h), tt))))), tt)

are_lines : (season : Season) (facts : PlanFacts) → IsSeason season → IsPlanOf season facts → facts.at_step < 2 ^ 32 → AreLines (plan_words season facts)
are_lines season facts is plan step =
    let path : HasWords (codes "path" ∷ map decimal facts.path) = (omega arith, words decimal (2 ^ 32) decimal_word facts.path (rungs_fit season.rules facts.path is.rules.ladder plan.path)) in
    let prices : HasWords (codes "prices" ∷ map cents_text (map (price season.rules) facts.path)) = (omega arith, words cents_text (2 ^ 64) cents_word (map (price season.rules) facts.path) (prices_fit season.rules is.rules.ladder facts.path)) in
    let low : Above 32 (money_text facts.low) = money_word facts.low (amount_fits facts.low plan.low) in
    let high : Above 32 (money_text facts.high) = money_word facts.high (amount_fits facts.high plan.high) in
    let bound : Above 32 (money_text facts.bound) = money_word facts.bound (amount_fits facts.bound plan.bound) in
    let at_step : Above 32 (decimal facts.at_step) = decimal_word facts.at_step step in
    let gap : Above 32 (money_text (facts.bound -ℤ facts.low)) = money_word (facts.bound -ℤ facts.low) (gap_abs facts.bound facts.low plan.bound plan.low) in
    (season_has_words season is, (path, (prices, ((omega arith, (low, (high, tt))), ((omega arith, (above_best facts.best, tt)), ((omega arith, (bound, (omega arith, (at_step, tt)))), ((omega arith, (gap, tt)), exact_are_lines season facts.exact is plan.exact)))))))

-- ---- for one season

make : List ℕ → ℤ → ℤ → Bool → ℤ → ℕ → Option (ℤ × ℤ × ℕ) → PlanFacts
make path low high best bound at_step exact = record { path = path; low = low; high = high; best = best; bound = bound; at_step = at_step; exact = exact }

made : (a : PlanFacts) → a ≡ make a.path a.low a.high a.best a.bound a.at_step a.exact
unfolding make
made a = refl

same_facts : (a b : PlanFacts) → a.path ≡ b.path → a.low ≡ b.low → a.high ≡ b.high → a.best ≡ b.best → a.bound ≡ b.bound → a.at_step ≡ b.at_step → a.exact ≡ b.exact → a ≡ b
same_facts a b path low high best bound step exact = let one = made a in let two = made b in cc

same_best : (a b : Bool) → best_word a ≡ best_word b → a ≡ b
same_best true true e = refl
same_best true false e = cc
same_best false true e = cc
same_best false false e = refl

same_exact : (season : Season) (a b : Option (ℤ × ℤ × ℕ)) → IsSeason season → IfSome a (IsExactOf season) → IfSome b (IsExactOf season) → exact_lines a ≡ exact_lines b → a ≡ b
same_exact season None None is p q e = refl
same_exact season None (Some (low, top, rung)) is p q e = cc
same_exact season (Some (low, top, rung)) None is p q e = cc
same_exact season (Some (low, top, rung)) (Some (other_low, other_top, other_rung)) is p q e =
    let lows : money_text low ≡ money_text other_low = cc in
    let tops : money_text top ≡ money_text other_top = cc in
    let rungs : decimal rung ≡ decimal other_rung = cc in
    let same_low : low ≡ other_low = money_determines low other_low (amount_fits low p.low) (amount_fits other_low q.low) lows in
    let same_top : top ≡ other_top = money_determines top other_top (amount_fits top p.top) (amount_fits other_top q.top) tops in
    let same_rung : rung ≡ other_rung = same_decimal rung other_rung (rung_fits season (low, top, rung) is p) (rung_fits season (other_low, other_top, other_rung) is q) rungs in
    cc

pub plan_determines : PlanTextDetermines
plan_determines season facts others is one two step other_step same =
    let all : plan_words season facts ≡ plan_words season others =
    lines_determine (plan_words season facts) (plan_words season others) (are_lines season facts is one step) (are_lines season others is two other_step) (sym (by_lines season facts) ∙ (same ∙ by_lines season others)) in
    let path : map decimal facts.path ≡ map decimal others.path = cc in
    let low : money_text facts.low ≡ money_text others.low = cc in
    let high : money_text facts.high ≡ money_text others.high = cc in
    let bound : money_text facts.bound ≡ money_text others.bound = cc in
    let at_step : decimal facts.at_step ≡ decimal others.at_step = cc in
    let best : best_word facts.best ≡ best_word others.best = cc in
    let exact : exact_lines facts.exact ≡ exact_lines others.exact = cc in
    same_facts facts others
    (same_items decimal (2 ^ 32) same_decimal facts.path others.path (rungs_fit season.rules facts.path is.rules.ladder one.path) (rungs_fit season.rules others.path is.rules.ladder two.path) path)
    (money_determines facts.low others.low (amount_fits facts.low one.low) (amount_fits others.low two.low) low)
    (money_determines facts.high others.high (amount_fits facts.high one.high) (amount_fits others.high two.high) high)
    (same_best facts.best others.best best)
    (money_determines facts.bound others.bound (amount_fits facts.bound one.bound) (amount_fits others.bound two.bound) bound)
    (same_decimal facts.at_step others.at_step step other_step at_step)
    (same_exact season facts.exact others.exact is one.exact two.exact exact)
