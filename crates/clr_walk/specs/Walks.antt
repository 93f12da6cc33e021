-- How a walk goes over the tight prefixes.
use Rattle.std.specs.Prelude.{◌≡◌, ◌⊎◌, ℕ, zero, suc, ◌+◌, ◌-◌, ◌<◌, nat_lt, ℤ, ◌≤ℤ◌, ◌<ℤ◌, Bool, IsTrue, List, [], ◌∷◌, ◌++◌, length, take, if◌then◌else◌}
use Rattle.std.specs.List.{filter, flat_map}
use Rattle.clr_num.specs.Lists.{numbers}
use Rattle.clr_rules.specs.FirstPath.{ComesBefore}
use Rattle.clr_walk.specs.Prefixes.{Terms, IsChosen}
use Rattle.clr_walk.specs.declared.walk.Walk.{Walk}
use Rattle.clr_walk.specs.Tight.{is_whole, reaches}

-- a prefix and what is taken behind it
abbrev pub entered : Terms → ℤ → List ℕ → List (List ℕ) → List (List ℕ)
entered terms seed prefix behind = if terms.live prefix then prefix ∷ (if reaches terms seed prefix then behind else []) else []

-- what is taken behind a prefix, over so many weeks
abbrev pub under : Terms → ℤ → List ℕ → ℕ → List (List ℕ)
under terms seed prefix zero = []
under terms seed prefix (suc weeks) = flat_map (λ rung. entered terms seed (prefix ++ rung ∷ []) (under terms seed (prefix ++ rung ∷ []) weeks)) (numbers 1 terms.rungs)

-- a walk that has met these prefixes
pub record IsWalked (terms : Terms) (seeds : List (List ℕ)) (nodes : ℕ) (seen : List (List ℕ)) (left : ℕ) (more : Bool) (best : List ℕ) (low : ℤ) : Type 0 where
  pub left_is : left ≡ nodes - length seen
  pub more_is : more ≡ nat_lt nodes (length seen)
  pub chosen : IsChosen terms (seeds ++ filter (is_whole terms) (take nodes seen)) best
  pub low_is : low ≡ terms.low best

-- a walk that had met some prefixes has met these too
abbrev pub Takes : Terms → List (List ℕ) → Walk → Walk → Type 0
Takes terms added before after =
    (seeds seen : List (List ℕ)) (nodes : ℕ) → IsWalked terms seeds nodes seen before.left before.more before.best.items before.low → IsWalked terms seeds nodes (seen ++ added) after.left after.more after.best.items after.low

-- a walk that had met some prefixes has met this one too, and has taken nothing behind it
abbrev pub Leaves : Terms → ℤ → List ℕ → ℕ → Walk → Walk → Type 0
Leaves terms seed prefix to_go before after = (behind : List (List ℕ)) → (to_go ≡ 0 → behind ≡ []) → Takes terms (entered terms seed prefix behind) before after

-- the walk goes on behind this prefix of its path
pub record IsOpened (terms : Terms) (seed : ℤ) (prefix : List ℕ) (done : ℕ) (path : List ℕ) : Type 0 where
  pub prefix_is : take (done + 1) path ≡ prefix
  pub live : IsTrue (terms.live prefix)
  pub reached : IsTrue (reaches terms seed prefix)
  pub more : done + 1 < length path

-- a path with this value is better than the best so far: its value is greater, or as great and it comes before
abbrev pub IsBetter : ℤ → ℤ → List ℕ → List ℕ → Type 0
IsBetter low value path best = (value <ℤ low) ⊎ ((value ≡ low) × ComesBefore path best)

-- it is not: its value is less, or as great and it is the best so far or comes after it
pub record IsNoBetter (low value : ℤ) (path best : List ℕ) : Type 0 where
  pub most : low ≤ℤ value
  pub after : low ≡ value → (path ≡ best) ⊎ ComesBefore best path

-- the better one of a path that is offered and the best so far
abbrev pub IsChoice : ℤ → ℤ → List ℕ → List ℕ → ℤ → List ℕ → Type 0
IsChoice low value path best value_after best_after =
    (IsBetter low value path best × (value_after ≡ low) × (best_after ≡ path)) ⊎ (IsNoBetter low value path best × (value_after ≡ value) × (best_after ≡ best))
