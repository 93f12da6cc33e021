-- One candidate more.
use Rattle.std.proofs.Common.{◌≡◌, ◌⊎◌, inl, inr, ℕ, ℤ, ◌≤ℤ◌, refl, sym, ◌∙◌, subst, arith, List, [], ◌∷◌, ◌++◌}
use Rattle.std.specs.List.{AllByRecursion}
use Rattle.std.proofs.lemmas.Int.{ints}
use Rattle.clr_rules.specs.FirstPath.{ComesBefore}
use Rattle.clr_walk.specs.Prefixes.{Terms, Among, IsChosen}
use Rattle.clr_walk.specs.Walks.{IsBetter, IsNoBetter, IsChoice}
use Rattle.clr_walk.proofs.Precedence.{before_chain}

-- ---- lists with one item more

pub All-append : {X : Type 0} (P : X → Type 0) (xs ys : List X) → AllByRecursion P xs → AllByRecursion P ys → AllByRecursion P (xs ++ ys)
All-append P [] ys a b = b
All-append P (x ∷ xs) ys a b = (a.0, All-append P xs ys a.1 b)

pub All-imply : {X : Type 0} (P Q : X → Type 0) (xs : List X) → ((x : X) → P x → Q x) → AllByRecursion P xs → AllByRecursion Q xs
All-imply P Q [] f a = tt
All-imply P Q (x ∷ xs) f a = (f x a.0, All-imply P Q xs f a.1)

pub All-both : {X : Type 0} (P Q : X → Type 0) (xs : List X) → AllByRecursion P xs → AllByRecursion Q xs → AllByRecursion (λ x. P x × Q x) xs
All-both P Q [] a b = tt
All-both P Q (x ∷ xs) a b = ((a.0, b.0), All-both P Q xs a.1 b.1)

pub All-among : (P : List ℕ → Type 0) (path : List ℕ) (xs : List (List ℕ)) → Among path xs → AllByRecursion P xs → P path
All-among P path [] h a = absurd h
All-among P path (x ∷ xs) (inl e) a = subst P (sym e) a.0
All-among P path (x ∷ xs) (inr h) a = All-among P path xs h a.1

pub among-left : (path : List ℕ) (xs ys : List (List ℕ)) → Among path xs → Among path (xs ++ ys)
among-left path [] ys h = absurd h
among-left path (x ∷ xs) ys (inl e) = inl e
among-left path (x ∷ xs) ys (inr h) = inr (among-left path xs ys h)

pub among-right : (path : List ℕ) (xs ys : List (List ℕ)) → Among path ys → Among path (xs ++ ys)
among-right path [] ys h = h
among-right path (x ∷ xs) ys h = inr (among-right path xs ys h)

-- ---- one candidate more

abbrev IsFirst : Terms → List ℕ → List ℕ → Type 0
IsFirst terms path other = terms.low other ≡ terms.low path → (other ≡ path) ⊎ ComesBefore path other

-- the new one is greater, or as great and before
pub takes_new : (terms : Terms) (candidates : List (List ℕ)) (best path : List ℕ) → IsChosen terms candidates best → IsBetter (terms.low path) (terms.low best) path best → IsChosen terms (candidates ++ path ∷ []) path
takes_new terms candidates best path chosen (inl more) = record {
  among = among-right path candidates (path ∷ []) (inl refl);
  greatest = All-append _ candidates (path ∷ []) (All-imply (λ other. terms.low other ≤ℤ terms.low best) (λ other. terms.low other ≤ℤ terms.low path) candidates (λ other p. omega (arith, ints)) chosen.greatest) (omega (arith, ints), tt);
  first = All-append (IsFirst terms path) candidates (path ∷ []) (All-imply (λ other. terms.low other ≤ℤ terms.low best) (IsFirst terms path) candidates (λ other p e. absurd (omega (arith, ints))) chosen.greatest) ((λ e. inl refl), tt);
}
takes_new terms candidates best path chosen (inr same) = record {
  among = among-right path candidates (path ∷ []) (inl refl);
  greatest = All-append _ candidates (path ∷ []) (All-imply (λ other. terms.low other ≤ℤ terms.low best) (λ other. terms.low other ≤ℤ terms.low path) candidates (λ other p. subst (λ t. terms.low other ≤ℤ t) same.0 p) chosen.greatest) (omega (arith, ints), tt);
  first = All-append (IsFirst terms path) candidates (path ∷ [])
      (All-imply (IsFirst terms best) (IsFirst terms path) candidates (λ other h e. inr (before other (h (e ∙ sym same.0)))) chosen.first)
      ((λ e. inl refl), tt);
}
  where
    before : (other : List ℕ) → (other ≡ best) ⊎ ComesBefore best other → ComesBefore path other
    before other (inl is) = subst (λ (list : List ℕ). ComesBefore path list) (sym is) same.1
    before other (inr after) = before_chain path best other same.1 after

-- the old one stays
pub keeps_old : (terms : Terms) (candidates : List (List ℕ)) (best path : List ℕ) → IsChosen terms candidates best → IsNoBetter (terms.low path) (terms.low best) path best → IsChosen terms (candidates ++ path ∷ []) best
keeps_old terms candidates best path chosen worse = record {
  among = among-left best candidates (path ∷ []) chosen.among;
  greatest = All-append _ candidates (path ∷ []) chosen.greatest (worse.most, tt);
  first = All-append (IsFirst terms best) candidates (path ∷ []) chosen.first (worse.after, tt);
}

pub record IsKept (terms : Terms) (candidates : List (List ℕ)) (best : List ℕ) (value : ℤ) : Type 0 where
  pub chosen : IsChosen terms candidates best
  pub value_is : value ≡ terms.low best

pub offered : (terms : Terms) (candidates : List (List ℕ)) (best path best_after : List ℕ) (low value value_after : ℤ) → IsKept terms candidates best value → low ≡ terms.low path → IsChoice low value path best value_after best_after → IsKept terms (candidates ++ path ∷ []) best_after value_after
offered terms candidates best path best_after low value value_after kept is (inl taken) =
    subst (λ (list : List ℕ). IsKept terms (candidates ++ path ∷ []) list value_after) (sym taken.2) (record {
      chosen = takes_new terms candidates best path kept.chosen (subst (λ v. IsBetter (terms.low path) v path best) kept.value_is (subst (λ l. IsBetter l value path best) is taken.0));
      value_is = taken.1 ∙ is;
    })
offered terms candidates best path best_after low value value_after kept is (inr left) =
    subst (λ (list : List ℕ). IsKept terms (candidates ++ path ∷ []) list value_after) (sym left.2) (record {
      chosen = keeps_old terms candidates best path kept.chosen (subst (λ v. IsNoBetter (terms.low path) v path best) kept.value_is (subst (λ l. IsNoBetter l value path best) is left.0));
      value_is = left.1 ∙ kept.value_is;
    })
