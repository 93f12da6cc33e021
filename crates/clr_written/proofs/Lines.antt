-- A line of a certificate, read back: it is short, holds no line feed, and has its place's key and numbers.
use Rattle.std.proofs.Common.{◌≡◌, ℕ, ◌+◌, ◌*◌, ◌≤◌, cond, sym, ap, ◌∙◌, subst, arith, List, [], ◌++◌, length, Some, None, IsTrue, length-append, decimal, leb→le, le-leb}
use Rattle.std.specs.Bool.{passes}
use Rattle.std.specs.Fmt.{signed_decimal}
use Rattle.clr_num.proofs.Fields.{Above, above-append}
use Rattle.clr_rules.specs.Rules.{is_live}
use Rattle.clr_season.specs.Season.{Season, IsSeason}
use Rattle.clr_cert.specs.declared.place.Place.{Place}
use Rattle.clr_cert.specs.Entries.{AreInRange, CertEntries}
use Rattle.clr_cert.specs.Lines.{key_fields, key_text, line_at, number_fields, numbers_at}
use Rattle.clr_cert.specs.Places.{IsPlaceOf}
use Rattle.clr_cert.specs.Reading.{count_at, fields_after, line_numbers, most_line, numbers_in}
use Rattle.clr_written.proofs.Keys.{IsKey, key_is, key_numbers, key_parts, key_word, word_is}
use Rattle.clr_written.proofs.Numbers.{count_few, count_is, ranged}
use Rattle.clr_written.proofs.Pieces.{above-fields, above_by, after_key, fields_back, length-fields}
use Rattle.clr_written.proofs.Spelled.{AreTold, keys_above, keys_long, numbers_above, numbers_above_10, numbers_back, numbers_long}

module _ (season : Season) (ok : IsSeason season) where
  key_above : (place : Place) → IsPlaceOf season place → Above 10 (key_text season place)
  key_above place of =
      let key : IsKey (key_numbers season place) = key_is season place ok of in
      subst (Above 10) (sym (key_parts season place))
      (above-append 10 (key_word season place) (key_fields (key_numbers season place)) (above_by 10 (key_word season place) (word_is season place).0) (above-fields 10 decimal (key_numbers season place) (omega arith) (keys_above (key_numbers season place) key.small)))

  key_short : (place : Place) → IsPlaceOf season place → length (key_text season place) ≤ 1564
  key_short place of =
      let key : IsKey (key_numbers season place) = key_is season place ok of in
      let size : length (key_word season place ++ key_fields (key_numbers season place)) ≡ length (key_word season place) + length (key_fields (key_numbers season place)) = length-append (key_word season place) (key_fields (key_numbers season place)) in
      let word : length (key_word season place) ≤ 24 = leb→le (length (key_word season place)) 24 (passes _ (word_is season place).1) in
      let fields : length (key_fields (key_numbers season place)) ≤ length (key_numbers season place) * 22 = length-fields decimal 21 (key_numbers season place) (keys_long (key_numbers season place) key.small) in
      let few : length (key_numbers season place) ≤ 70 = key.size in
      subst (λ (t : List ℕ). length t ≤ 1564) (sym (key_parts season place)) (total _ _ _ _ size word fields few)
    where
      total : (all a b n : ℕ) → all ≡ a + b → a ≤ 24 → b ≤ n * 22 → n ≤ 70 → all ≤ 1564
      total all a b n p q r s = omega arith

  module _ (entries : CertEntries) (any : IsTrue (is_live season.rules [])) (range : AreInRange season entries) where
    told : (place : Place) → IsPlaceOf season place → AreTold (numbers_at season entries place)
    told place of = (ranged season entries ok any range place of).told

    pub line_above : (place : Place) → IsPlaceOf season place → Above 10 (line_at season entries place)
    line_above place of =
        above-append 10 (key_text season place) (number_fields (numbers_at season entries place)) (key_above place of)
        (above-fields 10 signed_decimal (numbers_at season entries place) (omega arith) (numbers_above_10 (numbers_at season entries place) (told place of)))

    line_short : (place : Place) → IsPlaceOf season place → length (line_at season entries place) ≤ most_line
    line_short place of =
        let size : length (line_at season entries place) ≡ length (key_text season place) + length (number_fields (numbers_at season entries place)) = length-append (key_text season place) (number_fields (numbers_at season entries place)) in
        let fields : length (number_fields (numbers_at season entries place)) ≤ length (numbers_at season entries place) * 23 = length-fields signed_decimal 22 (numbers_at season entries place) (numbers_long (numbers_at season entries place) (told place of)) in
        let few : length (numbers_at season entries place) ≤ 2001 = subst (λ n. n ≤ 2001) (sym (count_is season entries place)) (count_few season place ok of) in
        total _ _ _ _ size (key_short place of) fields few
      where
        total : (all a b n : ℕ) → all ≡ a + b → a ≤ 1564 → b ≤ n * 23 → n ≤ 2001 → all ≤ 65536
        total all a b n p q r s = omega arith

    pub line_back : (place : Place) → IsPlaceOf season place → line_numbers season place (line_at season entries place) ≡ Some (numbers_at season entries place)
    line_back place of =
        ap (λ b. cond b (numbers_in (count_at season place) (fields_after (key_text season place) (line_at season entries place))) None) (le-leb (length (line_at season entries place)) most_line (line_short place of))
        ∙ (ap (numbers_in (count_at season place)) (after_key (key_text season place) (number_fields (numbers_at season entries place)) ∙ fields_back signed_decimal (numbers_at season entries place) (numbers_above (numbers_at season entries place) (told place of)))
        ∙ numbers_back (count_at season place) (numbers_at season entries place) (count_is season entries place) (told place of))
