-- Trees that abide, node by node.
use Rattle.std.proofs.Common.{◌≡◌, ℕ, refl, ap, ◌∙◌, subst, suc, zero, List, [], ◌∷◌, ◌++◌, map, length, get_or, append_assoc, IsTrue}
use Rattle.std.specs.List.{AllByRecursion, flat_map}
use Rattle.clr_num.specs.Lists.{numbers, all_lists}
use Rattle.clr_rules.specs.Rules.{obeys, is_live}
use Rattle.clr_rules.proofs.LiveLemmas.{live_before}
use Rattle.clr_season.specs.Season.{Season}
use Rattle.clr_model.specs.Policies.{Tree, stop, node, branch, joint_demands, outcomes, IsWhole, AbidesFrom}
use Rattle.clr_model.specs.StoreValue.{last_rung}
use Rattle.clr_model.specs.StoreLaws.{AbidingNodesLive, NodesLive}
use Rattle.clr_model.proofs.Sums.{All-all_lists, All-imply, All-both}

-- ---- a prefix with one more rung

pub length_more : (prefix : List ℕ) (rung : ℕ) → length (prefix ++ rung ∷ []) ≡ suc (length prefix)
length_more [] rung = refl
length_more (x ∷ prefix) rung = ap suc (length_more prefix rung)

pub last_rung_more : (prefix : List ℕ) (rung : ℕ) → last_rung (prefix ++ rung ∷ []) ≡ rung
last_rung_more prefix rung = rw length_more (at_end prefix)
  where
    at_end : (xs : List ℕ) → get_or (xs ++ rung ∷ []) (length xs) 1 ≡ rung
    at_end [] = refl
    at_end (x ∷ xs) = at_end xs

-- ---- there is an outcome

first_list : {X : Type 0} (x : X) (xs : List X) (n : ℕ) → (first : List X) × (rest : List (List X)) × (all_lists (x ∷ xs) n ≡ first ∷ rest)
first_list x xs zero = ([], [], refl)
first_list x xs (suc n) =
    let (first, rest, e) = first_list x xs n in (
      x ∷ first,
      map (λ more. x ∷ more) rest ++ flat_map (λ y. map (λ more. y ∷ more) (all_lists (x ∷ xs) n)) xs,
      ap (λ t. map (λ more. x ∷ more) t ++ flat_map (λ y. map (λ more. y ∷ more) (all_lists (x ∷ xs) n)) xs) e,
    )

pub some_of_lists : {X : Type 0} (P : List X → Type 0) (x : X) (xs : List X) (n : ℕ) → AllByRecursion P (all_lists (x ∷ xs) n) → (first : List X) × P first
some_of_lists P x xs n h =
    let (first, rest, e) = first_list x xs n in
    (first, (subst (AllByRecursion P) e h).0)

some_week : (season : Season) (P : List ℕ → Type 0) → AllByRecursion P (joint_demands season) → (week : List ℕ) × P week
some_week season P h = some_of_lists P 0 (numbers 1 season.top) (length season.stores) h

some_outcome : (season : Season) (weeks : ℕ) (P : List (List ℕ) → Type 0) → AllByRecursion P (outcomes season weeks) → (outcome : List (List ℕ)) × P outcome
some_outcome season weeks P h =
    let (first, rest, e) = first_list 0 (numbers 1 season.top) (length season.stores) in
    some_of_lists P first rest weeks (subst (λ lists. AllByRecursion P (all_lists lists weeks)) e h)

-- ---- one node of an abiding tree

pub abides_kids : (season : Season) (prefix : List ℕ) (weeks rung : ℕ) (kids : List ℕ → Tree) → AbidesFrom season prefix (suc weeks) (node rung kids) →
    AllByRecursion (λ week. AbidesFrom season (prefix ++ rung ∷ []) weeks (kids week)) (joint_demands season)
abides_kids season prefix weeks rung kids abides =
    let split = All-all_lists (λ outcome. IsTrue (obeys season.rules (prefix ++ branch (node rung kids) outcome))) (joint_demands season) weeks abides.branches in
    All-imply (λ week. IsWhole season weeks (kids week) × AllByRecursion (λ outcome. IsTrue (obeys season.rules (prefix ++ (rung ∷ branch (kids week) outcome)))) (outcomes season weeks))
    (λ week. AbidesFrom season (prefix ++ rung ∷ []) weeks (kids week)) (joint_demands season)
    (λ week h. record {
      whole = h.0;
      branches = All-imply (λ outcome. IsTrue (obeys season.rules (prefix ++ (rung ∷ branch (kids week) outcome)))) _ (outcomes season weeks)
          (λ outcome o. ap (obeys season.rules) (append_assoc prefix (rung ∷ []) (branch (kids week) outcome)) ∙ o) h.1;
    })
    (All-both (λ week. IsWhole season weeks (kids week)) (λ week. AllByRecursion (λ outcome. IsTrue (obeys season.rules (prefix ++ (rung ∷ branch (kids week) outcome)))) (outcomes season weeks)) (joint_demands season) abides.whole.2 split)

pub abides_live : (season : Season) (prefix : List ℕ) (weeks rung : ℕ) (kids : List ℕ → Tree) → AbidesFrom season prefix (suc weeks) (node rung kids) →
    IsTrue (is_live season.rules (prefix ++ rung ∷ []))
abides_live season prefix weeks rung kids abides =
    let split = All-all_lists (λ outcome. IsTrue (obeys season.rules (prefix ++ branch (node rung kids) outcome))) (joint_demands season) weeks abides.branches in
    let (week, per_week) = some_week season (λ week. AllByRecursion (λ outcome. IsTrue (obeys season.rules (prefix ++ (rung ∷ branch (kids week) outcome)))) (outcomes season weeks)) split in
    let (outcome, good) = some_outcome season weeks (λ outcome. IsTrue (obeys season.rules (prefix ++ (rung ∷ branch (kids week) outcome)))) per_week in
    live_before season.rules prefix (branch (kids week) outcome) rung good

pub abiding_nodes_live_lem : AbidingNodesLive
abiding_nodes_live_lem season prefix weeks stop abides = tt
abiding_nodes_live_lem season prefix zero (node rung kids) abides = absurd abides.whole
abiding_nodes_live_lem season prefix (suc weeks) (node rung kids) abides = (
  abides_live season prefix weeks rung kids abides,
  All-imply (λ week. AbidesFrom season (prefix ++ rung ∷ []) weeks (kids week)) (λ week. NodesLive season (prefix ++ rung ∷ []) (kids week)) (joint_demands season)
      (λ week h. abiding_nodes_live_lem season (prefix ++ rung ∷ []) weeks (kids week) h) (abides_kids season prefix weeks rung kids abides),
)
