-- The parts of a policy are policies for the weeks that are left.
use Rattle.std.proofs.Common.{◌≡◌, List, [], ◌∷◌, ◌++◌, ℕ, suc, ◌+◌, ◌≤◌, length, map, refl, sym, ap, subst, arith, IsTrue, Bool, true, false}
use Rattle.std.specs.Prelude.{◌&&◌, nat_le}
use Rattle.std.specs.Bool.{passes}
use Rattle.std.specs.List.{AllByRecursion}
use Rattle.std.proofs.Common.{le-leb, leb→le}
use Rattle.clr_rules.specs.Rules.{are_rungs}
use Rattle.clr_season.specs.Season.{Season}
use Rattle.clr_model.proofs.Sums.{All-append, All-imply, All-map}
use Rattle.clr_policy.specs.Written.{Written, finish, choose, ask, branches, stores_asked, IsPolicyFor}

pub All-join : {X : Type 0} (P : X → Type 0) (xs ys : List X) → AllByRecursion P xs → AllByRecursion P ys → AllByRecursion P (xs ++ ys)
All-join P [] ys a b = b
All-join P (x ∷ xs) ys a b = (a.0, All-join P xs ys a.1 b)

pub All-mapped : {X Y : Type 0} (P : Y → Type 0) (h : X → Y) (xs : List X) → AllByRecursion (λ x. P (h x)) xs → AllByRecursion P (map h xs)
All-mapped P h [] a = tt
All-mapped P h (x ∷ xs) a = (a.0, All-mapped P h xs a.1)

-- ---- put together

pub end_is : (season : Season) (weeks : ℕ) → weeks ≡ 0 → IsPolicyFor season weeks finish
end_is season weeks none = record { lengths = (sym none, tt); rungs = (refl, tt); stores = tt }

one_rung_more : (season : Season) (rung : ℕ) (branch : List ℕ) → 1 ≤ rung → rung ≤ length season.rules.prices → IsTrue (are_rungs season.rules branch) → IsTrue (are_rungs season.rules (rung ∷ branch))
one_rung_more season rung branch low high rest = rw (le-leb 1 rung low, le-leb rung (length season.rules.prices) high) rest

pub rung_is : (season : Season) (weeks rung : ℕ) (after : Written) → 1 ≤ rung → rung ≤ length season.rules.prices → IsPolicyFor season weeks after → IsPolicyFor season (weeks + 1) (choose rung after)
rung_is season weeks rung after low high is = record {
  lengths = All-mapped (λ branch. length branch ≡ weeks + 1) (λ rest. rung ∷ rest) (branches after)
      (All-imply (λ rest. length rest ≡ weeks) (λ rest. suc (length rest) ≡ weeks + 1) (branches after) (λ rest e. omega (arith, e)) is.lengths);
  rungs = All-mapped (λ branch. IsTrue (are_rungs season.rules branch)) (λ rest. rung ∷ rest) (branches after)
      (All-imply (λ rest. IsTrue (are_rungs season.rules rest)) (λ rest. IsTrue (are_rungs season.rules (rung ∷ rest))) (branches after) (λ rest h. one_rung_more season rung rest low high h) is.rungs);
  stores = is.stores;
}

pub test_is : (season : Season) (weeks store limit : ℕ) (below above : Written) → 1 ≤ store → store ≤ length season.stores → IsPolicyFor season weeks below → IsPolicyFor season weeks above →
    IsPolicyFor season weeks (ask store limit below above)
test_is season weeks store limit below above low high a b = record {
  lengths = All-join _ (branches below) (branches above) a.lengths b.lengths;
  rungs = All-join _ (branches below) (branches above) a.rungs b.rungs;
  stores = ((low, high), All-join _ (stores_asked below) (stores_asked above) a.stores b.stores);
}

-- ---- and taken apart

-- each policy has a branch
pub some_branch : (policy : Written) → (first : List ℕ) × (rest : List (List ℕ)) × (branches policy ≡ first ∷ rest)
some_branch finish = ([], [], refl)
some_branch (choose rung after) = let (first, rest, e) = some_branch after in (rung ∷ first, map (λ more. rung ∷ more) rest, ap (map (λ more. rung ∷ more)) e)
some_branch (ask store limit below above) = let (first, rest, e) = some_branch below in (first, rest ++ branches above, ap (λ t. t ++ branches above) e)

pub of_some : (P : Type 0) (Q : List ℕ → Type 0) (policy : Written) → ((branch : List ℕ) → Q branch → P) → AllByRecursion Q (branches policy) → P
of_some P Q policy from all = let (first, rest, e) = some_branch policy in from first (subst (AllByRecursion Q) e all).0

first_rung : (season : Season) (rung : ℕ) (rest : List ℕ) → IsTrue (are_rungs season.rules (rung ∷ rest)) → (1 ≤ rung) × (rung ≤ length season.rules.prices) × IsTrue (are_rungs season.rules rest)
first_rung season rung rest is = parts (nat_le 1 rung) (nat_le rung (length season.rules.prices)) (are_rungs season.rules rest) refl refl is
  where
    parts : (a b r : Bool) → nat_le 1 rung ≡ a → nat_le rung (length season.rules.prices) ≡ b → ((a && b) && r) ≡ true → (1 ≤ rung) × (rung ≤ length season.rules.prices) × IsTrue r
    parts true true r low high h = (leb→le 1 rung (passes _ low), leb→le rung (length season.rules.prices) (passes _ high), h)
    parts true false r low high h = cc h
    parts false b r low high h = cc h

pub week_left : (season : Season) (weeks rung : ℕ) (after : Written) → IsPolicyFor season weeks (choose rung after) →
    (left : ℕ) × (weeks ≡ suc left) × (1 ≤ rung) × (rung ≤ length season.rules.prices) × IsPolicyFor season left after
week_left season weeks rung after is =
    let lengths = All-map (λ branch. length branch ≡ weeks) (λ rest. rung ∷ rest) (branches after) is.lengths in
    let rungs = All-map (λ branch. IsTrue (are_rungs season.rules branch)) (λ rest. rung ∷ rest) (branches after) is.rungs in
    let (left, more) : (left : ℕ) × (weeks ≡ suc left) = of_some _ (λ rest. suc (length rest) ≡ weeks) after (λ rest e. (length rest, sym e)) lengths in
    let (low, high) : (1 ≤ rung) × (rung ≤ length season.rules.prices) = of_some _ (λ rest. IsTrue (are_rungs season.rules (rung ∷ rest))) after (λ rest h. let f = first_rung season rung rest h in (f.0, f.1)) rungs in (
      left,
      more,
      low,
      high,
      record {
        lengths = All-imply (λ rest. suc (length rest) ≡ weeks) (λ rest. length rest ≡ left) (branches after) (λ rest e. omega (arith, e, more)) lengths;
        rungs = All-imply (λ rest. IsTrue (are_rungs season.rules (rung ∷ rest))) (λ rest. IsTrue (are_rungs season.rules rest)) (branches after) (λ rest h. (first_rung season rung rest h).2) rungs;
        stores = is.stores;
      },
    )

pub both_left : (season : Season) (weeks store limit : ℕ) (below above : Written) → IsPolicyFor season weeks (ask store limit below above) →
    (1 ≤ store) × (store ≤ length season.stores) × IsPolicyFor season weeks below × IsPolicyFor season weeks above
both_left season weeks store limit below above is =
    let lengths = All-append _ (branches below) (branches above) is.lengths in
    let rungs = All-append _ (branches below) (branches above) is.rungs in
    let stores = All-append _ (stores_asked below) (stores_asked above) is.stores.1 in
    (is.stores.0.0, is.stores.0.1, record { lengths = lengths.0; rungs = rungs.0; stores = stores.0 }, record { lengths = lengths.1; rungs = rungs.1; stores = stores.1 })
