-- A checker at the end of a certificate.
use Rattle.std.proofs.Common.{◌≡◌, ℕ, ◌+◌, ◌-◌, ◌<◌, ◌≤◌, Bool, true, false, not, cond, nat_lt, refl, sym, ap, ap₂, ◌∙◌, subst, arith, suc, List, [], ◌∷◌, ◌++◌, length, get_or, slice_get, Some, None, Option, ℤ}
use Rattle.std.specs.Prelude.{option_map, unsigned_abs}
use Rattle.std.specs.List.{AllByRecursion}
use Rattle.std.specs.Option.{option_or}
use Rattle.std.proofs.lemmas.List.{length-map}
use Rattle.clr_demand.proofs.WeightLemmas.{get_or-map-numbers}
use Rattle.clr_rules.proofs.GridLemmas.{length-numbers}
use Rattle.clr_rules.specs.Rules.{IsPath}
use Rattle.clr_season.specs.Season.{Season, IsSeason}
use Rattle.clr_model.specs.Fits.{fits}
use Rattle.clr_cert.specs.declared.place.Place.{Place}
use Rattle.clr_cert.specs.declared.place.Place.TheVariants.{Head, Path, Revenue, Bound, Exact, End}
use Rattle.clr_cert.specs.declared.no.No.{No}
use Rattle.clr_cert.specs.declared.no.NoKind.TheVariants.{Extra, Form, Short}
use Rattle.clr_cert.specs.Accepts.{CertClaims, claims_in, claims_of, end_no, first_no, lines_no, plain_no}
use Rattle.clr_cert.specs.Conditions.{path_of}
use Rattle.clr_cert.specs.Places.{places, walk, week_numbers}
use Rattle.clr_cert.specs.Reading.{entries_in, most_line, row_of, told}
use Rattle.clr_check.specs.declared.rest.Rest.{Rest}
use Rattle.clr_check.specs.declared.rest.Rest.TheVariants.{Nothing, Few, Many}
use Rattle.clr_check.specs.declared.tables.Tables.{Tables}
use Rattle.clr_cert.specs.declared.claims.Claims.{Claims}
use Rattle.clr_check.specs.Standing.{IsClaimOf, AreKept, IsHeld, IsKept, IsLine, IsRest, Kept, Keeps, Stands, ended_text, is_end, kept_claims, kind_at_end}
use Rattle.clr_cert.proofs.Among.{Among, bound_place, exact_place, path_place, revenue_place, row_is}
use Rattle.clr_check.proofs.Ending.{ended_are, unended_is}
use Rattle.clr_check.proofs.Refused.{accepted_or_refused_lem}
use Rattle.clr_check.proofs.Walked.{IsWalked, of_line, at_end, walked}
use Rattle.std.proofs.lemmas.Option.{slice_get_within}

module _ (season : Season) (lines : List (List ℕ)) (bytes : List ℕ) where
  pub first_is : AllByRecursion IsLine lines → IsLine bytes → first_no season (ended_text lines ++ bytes) ≡ option_or (lines_no season lines) (end_no season (length lines) bytes)
  unfolding first_no
  first_is all rest =
      ap₂ (λ ls (b : List ℕ). option_or (lines_no season ls) (end_no season (length ls) b)) (ended_are lines bytes all rest) (unended_is lines bytes all rest)

  pub first_refused : (n : No) → AllByRecursion IsLine lines → IsLine bytes → lines_no season lines ≡ Some n → first_no season (ended_text lines ++ bytes) ≡ Some n
  first_refused n all rest h = first_is all rest ∙ ap (λ o. option_or o (end_no season (length lines) bytes)) h

  pub first_at_end : AllByRecursion IsLine lines → IsLine bytes → lines_no season lines ≡ None → first_no season (ended_text lines ++ bytes) ≡ end_no season (length lines) bytes
  first_at_end all rest h = first_is all rest ∙ ap (λ o. option_or o (end_no season (length lines) bytes)) h

rows_left : (season : Season) (row : ℕ) (place : Place) → slice_get (walk season) row ≡ Some place → nat_lt row (length (places season)) ≡ not (is_end place)
rows_left season row place next = go (walked season row place next)
  where
    yes : row < length (places season) → nat_lt row (length (places season)) ≡ true
    yes less = grind (arith, less)

    gone : row ≡ length (places season) → nat_lt row (length (places season)) ≡ false
    gone is = grind (arith, is)

    go : IsWalked season row place → nat_lt row (length (places season)) ≡ not (is_end place)
    go (of_line here goes less) = yes less ∙ ap not (sym goes)
    go (at_end is row_is) = gone row_is ∙ ap (λ p. not (is_end p)) (sym is)

pub end_is : (season : Season) (row : ℕ) (place : Place) (rest : Rest) (bytes : List ℕ) → slice_get (walk season) row ≡ Some place → IsRest rest bytes → end_no season row bytes ≡ option_map (plain_no row) (kind_at_end (is_end place) rest)
end_is season row place rest bytes next is = go rest bytes is (is_end place) (rows_left season row place next)
  where
    go : (rest : Rest) (bytes : List ℕ) → IsRest rest bytes → (b : Bool) → nat_lt row (length (places season)) ≡ not b → end_no season row bytes ≡ option_map (plain_no row) (kind_at_end b rest)
    go Nothing [] is true e = ap (λ b. cond b (Some (plain_no row Short)) None) e
    go Nothing [] is false e = ap (λ b. cond b (Some (plain_no row Short)) None) e
    go Nothing (byte ∷ bytes) is b e = cc
    go Few [] is b e = absurd (omega (arith, is.0))
    go Few (byte ∷ bytes) is true e = ap (λ b. Some (plain_no row (cond b (cond (nat_lt most_line (length (byte ∷ bytes))) Form Short) Extra))) e
    go Few (byte ∷ bytes) is false e = ap (λ b. Some (plain_no row (cond b (cond (nat_lt most_line (length (byte ∷ bytes))) Form Short) Extra))) e ∙ ap (λ b. Some (plain_no row (cond b Form Short))) (short (length (byte ∷ bytes)) is.1)
      where
        short : (n : ℕ) → n ≤ most_line → nat_lt most_line n ≡ false
        short n h = grind (arith, h)
    go Many [] is b e = absurd (omega (arith, is))
    go Many (byte ∷ bytes) is true e = ap (λ b. Some (plain_no row (cond b (cond (nat_lt most_line (length (byte ∷ bytes))) Form Short) Extra))) e
    go Many (byte ∷ bytes) is false e = ap (λ b. Some (plain_no row (cond b (cond (nat_lt most_line (length (byte ∷ bytes))) Form Short) Extra))) e ∙ ap (λ b. Some (plain_no row (cond b Form Short))) (long (length (byte ∷ bytes)) is)
      where
        long : (n : ℕ) → most_line < n → nat_lt most_line n ≡ true
        long n h = grind (arith, h)

-- ---- what is claimed

same_items : (xs ys : List ℕ) → length xs ≡ length ys → ((k : ℕ) → k < length xs → get_or xs k 0 ≡ get_or ys k 0) → xs ≡ ys
same_items [] [] h each = refl
same_items [] (y ∷ ys) h each = absurd (omega (arith, h))
same_items (x ∷ xs) [] h each = absurd (omega (arith, h))
same_items (x ∷ xs) (y ∷ ys) h each = ap₂ (λ a b. a ∷ b) (each 0 (omega arith)) (same_items xs ys (omega (arith, h)) (λ k l. each (suc k) (omega (arith, l))))

abbrev claim : List ℕ → ℤ → ℤ → ℤ → Option (ℤ × ℤ) → CertClaims
claim p l h b e = record { path = p; low = l; high = h; bound = b; exact = e }

claims_same : (p p' : List ℕ) (l l' h h' b b' : ℤ) (e e' : Option (ℤ × ℤ)) → p ≡ p' → l ≡ l' → h ≡ h' → b ≡ b' → e ≡ e' → claim p l h b e ≡ claim p' l' h' b' e'
claims_same p p' l l' h h' b b' e e' a c d f g = ap₂ (λ x y. claim x y h b e) a c ∙ (ap₂ (λ x y. claim p' l' x y e) d f ∙ ap (λ x. claim p' l' h' b' x) g)

module _ (season : Season) (lines : List (List ℕ)) (tables : Tables) (path : IsPath season.rules tables.path) (keeps : Keeps season lines (length lines) End tables) (whole : length lines ≡ length (places season)) where
  kept_of : (place : Place) → Among (places season) place → IsHeld season End place → AreKept season tables place (told season lines place)
  kept_of place among held =
      let here : slice_get (places season) (row_of season place) ≡ Some place = row_is season place among in
      let inside : row_of season place < length (places season) = slice_get_within (places season) (row_of season place) place here in
      keeps (row_of season place) place here (omega (arith, inside, whole)) held

  path_is : tables.path ≡ path_of season (entries_in season lines)
  unfolding entries_in
  path_is =
      let size : length (path_of season (entries_in season lines)) ≡ season.rules.weeks = length-map (week_numbers season) _ ∙ length-numbers 1 season.rules.weeks in
      same_items tables.path (path_of season (entries_in season lines)) (path.weeks ∙ sym size)
      (λ k less. item k (subst (λ n. k < n) path.weeks less))
    where
      back : (k : ℕ) → 1 + k - 1 ≡ k
      back k = omega arith

      item : (k : ℕ) → k < season.rules.weeks → get_or tables.path k 0 ≡ get_or (path_of season (entries_in season lines)) k 0
      item k less =
          ap unsigned_abs (kept_of Path (path_place season) tt k less)
          ∙ (ap (λ n. unsigned_abs (told season lines Path n)) (sym (back k))
          ∙ sym (get_or-map-numbers (λ week. unsigned_abs (told season lines Path (week - 1))) 1 season.rules.weeks k 0 less))

  pub claims_are : (exact : Option (ℤ × ℤ)) → exact ≡ cond (fits season) (Some tables.exact) None → claim tables.path tables.low tables.high tables.bound exact ≡ claims_in season lines
  claims_are exact is =
      claims_same _ _ _ _ _ _ _ _ _ _ path_is (kept_of Revenue (revenue_place season) tt).0 (kept_of Revenue (revenue_place season) tt).1 (kept_of Bound (bound_place season) tt) (is ∙ go (fits season) refl)
    where
      go : (b : Bool) → fits season ≡ b → cond b (Some tables.exact) None ≡ cond b (Some (told season lines Exact 0, told season lines Exact 1)) None
      go true e = let both = kept_of Exact (exact_place season e) tt in ap₂ (λ a c. Some (a, c)) both.0 both.1
      go false e = refl

-- ---- a checker that was fed nothing

pub walk_head : (season : Season) → slice_get (walk season) 0 ≡ Some Head
unfolding places
walk_head season = refl

pub opened : (season : Season) (tables : Tables) → Stands season [] (record { season = season; row = 0; place = Head; tables = tables; no = None })
opened season tables = record {
  same = refl;
  each = tt;
  no = refl;
  keeps = λ _. record { row = refl; next = walk_head season; tables = λ row place here less held. absurd (omega arith) };
}

-- ---- the end of a certificate

module _ (season : Season) (lines : List (List ℕ)) (bytes : List ℕ) (kept : Kept) (rest : Rest) (ok : IsSeason season) (h : Stands season lines kept) (line : IsLine bytes) (is : IsRest rest bytes) where
  pub ended_refused : (n : No) → kept.no ≡ Some n → first_no season (ended_text lines ++ bytes) ≡ Some n
  ended_refused n e = first_refused season lines bytes n h.each line (sym h.no ∙ e)

  pub ended_is : kept.no ≡ None → first_no season (ended_text lines ++ bytes) ≡ option_map (plain_no kept.row) (kind_at_end (is_end kept.place) rest)
  ended_is e =
      let none : lines_no season lines ≡ None = sym h.no ∙ e in
      first_at_end season lines bytes h.each line none
      ∙ (end_is season (length lines) kept.place rest bytes (h.keeps none).next is ∙ ap (λ n. option_map (plain_no n) (kind_at_end (is_end kept.place) rest)) (sym (h.keeps none).row))

  all_come : kind_at_end (is_end kept.place) rest ≡ None → is_end kept.place ≡ true
  all_come e = go (is_end kept.place) rest e
    where
      go : (b : Bool) (r : Rest) → kind_at_end b r ≡ None → b ≡ true
      go true r e = refl
      go false Nothing e = cc
      go false Few e = cc
      go false Many e = cc

  pub ended_claims : IsPath season.rules kept.tables.path → kept.no ≡ None → kind_at_end (is_end kept.place) rest ≡ None → (claims : Claims) → claims_of claims ≡ kept_claims kept → IsClaimOf season (ended_text lines ++ bytes) claims
  ended_claims path e k claims c =
      let none : lines_no season lines ≡ None = sym h.no ∙ e in
      let keeps : IsKept season lines kept = h.keeps none in
      go (walked season (length lines) kept.place keeps.next) keeps
    where
      go : IsWalked season (length lines) kept.place → IsKept season lines kept → IsClaimOf season (ended_text lines ++ bytes) claims
      go (of_line here goes less) keeps = let clash : true ≡ false = sym (all_come k) ∙ goes in cc
      go (at_end last row) keeps = record {
        accepted = (accepted_or_refused_lem season (ended_text lines ++ bytes)).0 (ended_is e ∙ ap (option_map (plain_no kept.row)) k);
        same = c ∙ (claims_are season lines kept.tables path (subst (λ p. Keeps season lines (length lines) p kept.tables) last keeps.tables) row (cond (fits kept.season) (Some kept.tables.exact) None) (ap (λ s. cond (fits s) (Some kept.tables.exact) None) h.same) ∙ ap (claims_in season) (sym (ended_are lines bytes h.each line)));
      }
