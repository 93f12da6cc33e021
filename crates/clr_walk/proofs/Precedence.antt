-- The order of paths.
use Rattle.std.proofs.Common.{◌≡◌, inl, inr, ℕ, ◌<◌, ◌≤◌, refl, ap₂, sym, ◌∙◌, subst, arith, zero, suc, List, [], ◌∷◌, length, get_or}
use Rattle.std.proofs.lemmas.Bool.{cases_order}
use Rattle.clr_rules.specs.Rules.{rung_at}
use Rattle.clr_rules.specs.FirstPath.{ComesBefore}

pub before_chain : (one two three : List ℕ) → ComesBefore one two → ComesBefore two three → ComesBefore one three
before_chain one two three p q =
    elim (cases_order p.week q.week) [
      | inl same ↦ record {
        week = p.week;
        first = p.first;
        last = p.last;
        same = λ earlier low high. p.same earlier low high ∙ q.same earlier low (subst (λ n. earlier < n) same high);
        less = both p.less (subst (λ n. rung_at two n < rung_at three n) (sym same) q.less);
      }
      | inr apart ↦ elim apart [
        | inl sooner ↦ record {
          week = p.week;
          first = p.first;
          last = p.last;
          same = λ earlier low high. p.same earlier low high ∙ q.same earlier low (chain high sooner);
          less = subst (λ n. rung_at one p.week < n) (q.same p.week p.first sooner) p.less;
        }
        | inr later ↦ record {
          week = q.week;
          first = q.first;
          last = within later p.last;
          same = λ earlier low high. p.same earlier low (chain high later) ∙ q.same earlier low high;
          less = subst (λ n. n < rung_at three q.week) (sym (p.same q.week q.first later)) q.less;
        }
      ]
    ]
  where
    both : {a b c : ℕ} → a < b → b < c → a < c
    both h g = omega arith

    chain : {a b c : ℕ} → a < b → b < c → a < c
    chain h g = omega arith

    within : {a b c : ℕ} → a < b → b ≤ c → a ≤ c
    within h g = omega arith

-- two paths that agree before a place, and at it one has the lesser rung
pub lesser_at : (one other : List ℕ) (i : ℕ) → i < length one → ((k : ℕ) → k < i → get_or one k 1 ≡ get_or other k 1) → get_or one i 1 < get_or other i 1 → ComesBefore one other
lesser_at one other i inside same less = record {
  week = suc i;
  first = omega arith;
  last = inside;
  same = agree;
  less = less;
}
  where
    agree : (earlier : ℕ) → 1 ≤ earlier → earlier < suc i → rung_at one earlier ≡ rung_at other earlier
    agree zero low high = absurd (omega arith)
    agree (suc k) low high = same k (omega arith)

-- two paths that agree everywhere
pub same_everywhere : (one other : List ℕ) → length one ≡ length other → ((k : ℕ) → k < length one → get_or one k 1 ≡ get_or other k 1) → one ≡ other
same_everywhere [] [] e h = refl
same_everywhere [] (y ∷ ys) e h = absurd (omega arith)
same_everywhere (x ∷ xs) [] e h = absurd (omega arith)
same_everywhere (x ∷ xs) (y ∷ ys) e h = ap₂ (λ a b. a ∷ b) (h 0 (omega arith)) (same_everywhere xs ys (omega arith) (λ k p. h (suc k) (omega arith)))
