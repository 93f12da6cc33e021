-- The first fault of some lines, and of one line more.
use Rattle.std.proofs.Common.{◌≡◌, ℕ, ◌+◌, ◌<◌, cond, refl, ap, ◌∙◌, arith, suc, zero, List, [], ◌∷◌, ◌++◌, length, get_or, slice_get, Some, None, Option, ℤ}
use Rattle.std.specs.Option.{option_or}
use Rattle.std.proofs.lemmas.List.{get_or_append_left}
use Rattle.std.proofs.Math.Seq.{get_or-append_seam}
use Rattle.clr_num.specs.Lists.{numbers}
use Rattle.clr_season.specs.Season.{Season, IsSeason}
use Rattle.clr_cert.specs.declared.place.Place.{Place}
use Rattle.clr_cert.specs.declared.no.No.{No}
use Rattle.clr_cert.specs.declared.no.NoKind.TheVariants.{Range}
use Rattle.clr_cert.specs.Accepts.{failing, first_some, line_no, lines_no, numbers_no, place_no, plain_no}
use Rattle.clr_cert.specs.Conditions.{Condition}
use Rattle.clr_cert.specs.Places.{places}
use Rattle.clr_cert.specs.Reading.{are_in_range, line_numbers}
use Rattle.clr_check.proofs.Coming.{length-more}
use Rattle.clr_check.proofs.Refused.{line_at}
use Rattle.clr_check.proofs.Staying.{conditions_stay}

-- ---- the first answer

or_nothing : {X : Type 0} (a : Option X) → option_or a None ≡ a
or_nothing None = refl
or_nothing (Some x) = refl

or_assoc : {X : Type 0} (a b c : Option X) → option_or a (option_or b c) ≡ option_or (option_or a b) c
or_assoc None b c = refl
or_assoc (Some x) b c = refl

first_last : {Y : Type 0} (f : ℕ → Option Y) (from count : ℕ) → first_some f (numbers from (suc count)) ≡ option_or (first_some f (numbers from count)) (f (from + count))
first_last f from zero = let e : from ≡ from + 0 = omega arith in or_nothing (f from) ∙ ap f e
first_last f from (suc count) =
    let e : suc from + count ≡ from + suc count = omega arith in
    ap (option_or (f from)) (first_last f (suc from) count)
    ∙ (or_assoc (f from) (first_some f (numbers (suc from) count)) (f (suc from + count)) ∙ ap (λ n. option_or (first_some f (numbers from (suc count))) (f n)) e)

first_same : {Y : Type 0} (f g : ℕ → Option Y) (from count : ℕ) → ((n : ℕ) → n < from + count → f n ≡ g n) → first_some f (numbers from count) ≡ first_some g (numbers from count)
first_same f g from zero h = refl
first_same f g from (suc count) h =
    ap (λ o. option_or o (first_some f (numbers (suc from) count))) (h from (omega arith))
    ∙ ap (option_or (g from)) (first_same f g (suc from) count (λ n less. h n (omega arith)))

-- ---- one line more

module _ (season : Season) (lines : List (List ℕ)) (line : List ℕ) (ok : IsSeason season) where
  -- the fault of a line before it stays
  line_stays : (row : ℕ) → row < length lines → line_no season (lines ++ line ∷ []) row ≡ line_no season lines row
  unfolding line_no
  line_stays row less = go (slice_get (places season) row) refl
    where
      by_read : (place : Place) (read : Option (List ℤ)) → slice_get (places season) row ≡ Some place → numbers_no season (lines ++ line ∷ []) row place read ≡ numbers_no season lines row place read
      by_read place None here = refl
      by_read place (Some list) here = ap (λ (cs : List Condition). cond (are_in_range season place list) (failing row cs) (Some (plain_no row Range))) (conditions_stay season lines line row ok less place list here)

      go : (o : Option Place) → slice_get (places season) row ≡ o → place_no season (lines ++ line ∷ []) row o ≡ place_no season lines row o
      go None e = refl
      go (Some place) e =
          ap (λ l. numbers_no season (lines ++ line ∷ []) row place (line_numbers season place l)) (get_or_append_left lines (line ∷ []) [] row less)
          ∙ by_read place (line_numbers season place (get_or lines row [])) e

  pub lines_more : lines_no season (lines ++ line ∷ []) ≡ option_or (lines_no season lines) (line_no season (lines ++ line ∷ []) (length lines))
  lines_more =
      let none : 0 + length lines ≡ length lines = omega arith in
      ap (λ n. first_some (line_no season (lines ++ line ∷ [])) (numbers 0 n)) (length-more lines line)
      ∙ (first_last (line_no season (lines ++ line ∷ [])) 0 (length lines)
      ∙ (ap (λ n. option_or (first_some (line_no season (lines ++ line ∷ [])) (numbers 0 (length lines))) (line_no season (lines ++ line ∷ []) n)) none
      ∙ ap (λ o. option_or o (line_no season (lines ++ line ∷ []) (length lines))) (first_same (line_no season (lines ++ line ∷ [])) (line_no season lines) 0 (length lines) (λ row less. line_stays row (omega (arith, less))))))

  -- where a line is refused, the refusal stays
  pub refused_more : (n : No) → lines_no season lines ≡ Some n → lines_no season (lines ++ line ∷ []) ≡ Some n
  refused_more n h = lines_more ∙ ap (λ o. option_or o (line_no season (lines ++ line ∷ []) (length lines))) h

  -- where none is, the new line's fault is the first
  pub none_more : lines_no season lines ≡ None → lines_no season (lines ++ line ∷ []) ≡ line_no season (lines ++ line ∷ []) (length lines)
  none_more h = lines_more ∙ ap (λ o. option_or o (line_no season (lines ++ line ∷ []) (length lines))) h

  -- the new line's fault at its place
  pub line_more : (place : Place) → slice_get (places season) (length lines) ≡ Some place → line_no season (lines ++ line ∷ []) (length lines) ≡ numbers_no season (lines ++ line ∷ []) (length lines) place (line_numbers season place line)
  line_more place here =
      line_at season (lines ++ line ∷ []) (length lines) place here
      ∙ ap (λ l. numbers_no season (lines ++ line ∷ []) (length lines) place (line_numbers season place l)) (get_or-append_seam lines line [] [])
