-- A text of fields, field by field.
use Rattle.std.proofs.Common.{◌≡◌, ℕ, ◌+◌, ◌<◌, ◌≤◌, Bool, true, false, cond, ◌==◌, not, refl, sym, ap, ◌∙◌, subst, arith, suc, zero, List, [], ◌∷◌, ◌++◌, length, take, drop, get_or, Some, None, Option, ℤ, eq-eqb, Bor}
use Rattle.std.proofs.lemmas.List.{length-take-le}
use Rattle.std.proofs.Math.Seq.{take-length}
use Rattle.std.specs.Prelude.{MatchOption}
use Rattle.clr_cert.specs.declared.number.Num.{Num}
use Rattle.std.specs.List.{list_all}
use Rattle.std.proofs.Common.{map, pos, set, ◌-◌, ◌⊎◌, inl, inr, ◌&&◌, nat_le, ◌≢◌, append_assoc, append-nil, ap₂, eqb→eq, length-append, below_more, get_or-set_other, get_or-set_same}
use Rattle.std.specs.Prelude.{unsigned_abs}
use Rattle.std.proofs.lemmas.Bool.{and_from, and_parts}
use Rattle.clr_cert.proofs.NumberTexts.{abs-spelled, read_is}
use Rattle.std.proofs.Common.{negsuc, to_z, of_z, SFits}
use Rattle.std.proofs.lemmas.Int.{ints, to_z-of_z}
use mir.Syntax.{w128}
use Rattle.clr_average.proofs.Reading.{within_128}
use Rattle.clr_cert.specs.declared.number.Num.TheVariants.{No, Large, Is}
use Rattle.clr_cert.specs.Numbers.{most_size, num_of, spelled_number, spelled_size, spells_number}
use Rattle.std.specs.Bool.{passes}
use lib.ListN.{length-map}
use Rattle.clr_check.specs.Fields.{AreRead, HasNone, HasNumberFirst, first_field}
use Rattle.std.specs.List.{position_or_len}
use Rattle.clr_cert.specs.Reading.{comma_fields, is_within, numbers_in, onto_first, pieces_of}

abbrev is_comma : ℕ → Bool
is_comma byte = byte == 44

abbrev end_of : List ℕ → ℕ
end_of bytes = position_or_len is_comma bytes

-- the first piece, and the fields after it
pub record Cut (bytes : List ℕ) : Type 0 where
  pub more : List (List ℕ)
  pub rest : comma_fields (drop (position_or_len (λ byte. byte == 44) bytes) bytes) ≡ Some more
  pub whole : pieces_of 44 bytes ≡ take (position_or_len (λ byte. byte == 44) bytes) bytes ∷ more

pub cut : (bytes : List ℕ) → Cut bytes
cut [] = record { more = []; rest = refl; whole = refl }
cut (byte ∷ bytes) = go (byte == 44) refl (cut bytes)
  where
    here : (b : Bool) → ℕ
    here b = cond (not b) (1 + end_of bytes) 0

    go : (b : Bool) → (byte == 44) ≡ b → Cut bytes → Cut (byte ∷ bytes)
    go true e later = record {
      more = pieces_of 44 bytes;
      rest = ap (λ b. comma_fields (drop (here b) (byte ∷ bytes))) e ∙ ap (λ b. cond b (Some (pieces_of 44 bytes)) None) e;
      whole = ap (λ b. cond b ([] ∷ pieces_of 44 bytes) (onto_first byte (pieces_of 44 bytes))) e ∙ ap (λ b. take (here b) (byte ∷ bytes) ∷ pieces_of 44 bytes) (sym e);
    }
    go false e later =
        let more_is : here false ≡ suc (end_of bytes) = omega arith in
        record {
          more = later.more;
          rest = ap (λ b. comma_fields (drop (here b) (byte ∷ bytes))) e ∙ (ap (λ n. comma_fields (drop n (byte ∷ bytes))) more_is ∙ later.rest);
          whole = ap (λ b. cond b ([] ∷ pieces_of 44 bytes) (onto_first byte (pieces_of 44 bytes))) e ∙ (ap (onto_first byte) later.whole ∙ (ap (λ n. take n (byte ∷ bytes) ∷ later.more) (sym more_is) ∙ ap (λ b. take (here b) (byte ∷ bytes) ∷ later.more) (sym e)));
        }

-- ---- the first number

-- the first field starts a text in which it stands after a comma
abbrev pub Fields : List ℕ → List (List ℕ) → Type 0
Fields text fields = comma_fields text ≡ Some fields

comma_is : (text : List ℕ) → get_or text 0 0 ≡ 44 → comma_fields text ≡ Some (pieces_of 44 (drop 1 text))
comma_is [] h = absurd (no h)
  where
    no : zero ≡ 44 → ⊥
    no h = omega arith
comma_is (byte ∷ bytes) h = ap (λ b. cond b (Some (pieces_of 44 bytes)) None) (eq-eqb byte 44 h)

cons_is : {X : Type 0} (x y : X) (xs ys : List X) → Some (x ∷ xs) ≡ Some (y ∷ ys) → x ≡ y
cons_is x y xs ys h = cc

pub rest_is : (text : List ℕ) → take (length text - 1) (drop 1 text) ≡ drop 1 text
rest_is [] = refl
rest_is (byte ∷ bytes) = let e : suc (length bytes) - 1 ≡ length bytes = omega arith in ap (λ n. take n bytes) e ∙ take-length bytes

pub after_comma : (text bytes : List ℕ) (found : Option (Num × Bor (List ℕ))) → bytes ≡ drop 1 text → get_or text 0 0 ≡ 44 →
    MatchOption found (spells_number (first_field bytes) ≡ false)
    (λ f. (spells_number (first_field bytes) ≡ true) × (f.0 ≡ num_of (first_field bytes)) × (f.1.now ≡ drop (length (first_field bytes)) bytes)) →
    MatchOption found (HasNone text) (λ f. HasNumberFirst text f.0 f.1.now)
after_comma text bytes None same comma h =
    let parts : Cut bytes = cut bytes in
    λ field more is. ap spells_number (cons_is field (first_field bytes) more parts.more (sym is ∙ (comma_is text comma ∙ ap Some (ap (pieces_of 44) (sym same) ∙ parts.whole)))) ∙ h
after_comma text bytes (Some f) same comma h =
    let parts : Cut bytes = cut bytes in
    let size : length (first_field bytes) ≡ end_of bytes = length-take_end bytes in
    record {
      field = first_field bytes;
      more = parts.more;
      spells = h.0;
      is = h.1;
      rest = ap comma_fields (h.2 ∙ ap (λ n. drop n bytes) size) ∙ parts.rest;
      whole = comma_is text comma ∙ ap Some (ap (pieces_of 44) (sym same) ∙ parts.whole);
    }
  where
    end_within : (bytes : List ℕ) → end_of bytes ≤ length bytes
    end_within [] = omega arith
    end_within (byte ∷ bytes) = go (byte == 44) (end_within bytes)
      where
        go : (b : Bool) → end_of bytes ≤ length bytes → cond (not b) (1 + end_of bytes) 0 ≤ suc (length bytes)
        go true h = omega arith
        go false h = omega arith

    length-take_end : (bytes : List ℕ) → length (take (end_of bytes) bytes) ≡ end_of bytes
    length-take_end bytes = length-take-le (end_of bytes) bytes (end_within bytes)

-- ---- numbers so far

-- so many fields have been read of a text, up to this one: the numbers that they spell, or, where one is too large to be told, others
pub record AreReadTo (text rest : List ℕ) (at : ℕ) (told : Bool) (read : List ℤ) : Type 0 where
  pub fields : List (List ℕ)
  pub count : length fields ≡ at
  pub spell : list_all spells_number fields ≡ true
  pub whole : (more : List (List ℕ)) → comma_fields rest ≡ Some more → comma_fields text ≡ Some (fields ++ more)
  pub none : comma_fields rest ≡ None → comma_fields text ≡ None
  pub all : told ≡ true → (k : ℕ) → k < at → get_or read k (pos 0) ≡ get_or (map spelled_number fields) k (pos 0)
  pub large : told ≡ false → list_all (is_within most_size) (map spelled_number fields) ≡ false

pub none_read : (text : List ℕ) (read : List ℤ) → AreReadTo text text 0 true read
none_read text read = record {
  fields = [];
  count = refl;
  spell = refl;
  whole = λ more h. h;
  none = λ h. h;
  all = λ _ k less. absurd (omega arith);
  large = λ h. cc;
}

-- what a number that was read changes
abbrev pub Puts : Num → ℕ → Bool → List ℤ → Bool → List ℤ → Type 0
Puts (Is value) at told read told' read' = (told' ≡ told) × (read' ≡ set read at value)
Puts Large at told read told' read' = (told' ≡ false) × (read' ≡ read)
Puts No at told read told' read' = (told' ≡ false) × (read' ≡ read)

num_cases : (field : List ℕ) → spells_number field ≡ true → (num_of field ≡ Is (spelled_number field)) ⊎ ((num_of field ≡ Large) × (is_within most_size (spelled_number field) ≡ false))
num_cases field spells = go (nat_le (spelled_size field) most_size) refl
  where
    size : unsigned_abs (spelled_number field) ≡ spelled_size field
    size = abs-spelled field

    go : (b : Bool) → nat_le (spelled_size field) most_size ≡ b → (num_of field ≡ Is (spelled_number field)) ⊎ ((num_of field ≡ Large) × (is_within most_size (spelled_number field) ≡ false))
    go true e = inl (ap (λ b. cond b (cond (nat_le (spelled_size field) most_size) (Is (spelled_number field)) Large) No) spells ∙ ap (λ b. cond b (Is (spelled_number field)) Large) e)
    go false e = inr (ap (λ b. cond b (cond (nat_le (spelled_size field) most_size) (Is (spelled_number field)) Large) No) spells ∙ ap (λ b. cond b (Is (spelled_number field)) Large) e, ap (λ n. nat_le n most_size) size ∙ e)

get_last : (fields : List (List ℕ)) (field : List ℕ) → get_or (map spelled_number (fields ++ field ∷ [])) (length fields) (pos 0) ≡ spelled_number field
get_last [] field = refl
get_last (f ∷ fields) field = get_last fields field

get_front : (fields : List (List ℕ)) (field : List ℕ) (k : ℕ) → k < length fields → get_or (map spelled_number (fields ++ field ∷ [])) k (pos 0) ≡ get_or (map spelled_number fields) k (pos 0)
get_front [] field k h = absurd (omega arith)
get_front (f ∷ fields) field zero h = refl
get_front (f ∷ fields) field (suc k) h = get_front fields field k (omega arith)

all_last : {X : Type 0} (test : X → Bool) (xs : List X) (x : X) → list_all test xs ≡ true → test x ≡ true → list_all test (xs ++ x ∷ []) ≡ true
all_last test [] x p q = and_from (test x) true q refl
all_last test (y ∷ xs) x p q = let parts = and_parts (test y) (list_all test xs) p in and_from (test y) (list_all test (xs ++ x ∷ [])) parts.0 (all_last test xs x parts.1 q)

-- a test that fails for one of them
last_fails : {X Y : Type 0} (test : Y → Bool) (f : X → Y) (xs : List X) (x : X) → test (f x) ≡ false → list_all test (map f (xs ++ x ∷ [])) ≡ false
last_fails test f [] x h = ap (λ b. b && true) h
last_fails test f (y ∷ xs) x h = ap (λ b. test (f y) && b) (last_fails test f xs x h) ∙ none (test (f y))
  where
    none : (b : Bool) → (b && false) ≡ false
    none true = refl
    none false = refl

front_fails : {X Y : Type 0} (test : Y → Bool) (f : X → Y) (xs : List X) (x : X) → list_all test (map f xs) ≡ false → list_all test (map f (xs ++ x ∷ [])) ≡ false
front_fails test f [] x h = cc
front_fails {X} {Y} test f (y ∷ xs) x h = go (test (f y)) refl (front_fails test f xs x)
  where
    go : (b : Bool) → test (f y) ≡ b → (list_all test (map f xs) ≡ false → list_all test (map f (xs ++ x ∷ [])) ≡ false) → (test (f y) && list_all test (map f (xs ++ x ∷ []))) ≡ false
    go true e later = ap (λ b. b && list_all test (map f (xs ++ x ∷ []))) e ∙ later (sym (ap (λ b. b && list_all test (map f xs)) e) ∙ h)
    go false e later = ap (λ b. b && list_all test (map f (xs ++ x ∷ []))) e

length-last : {X : Type 0} (xs : List X) (x : X) → length (xs ++ x ∷ []) ≡ suc (length xs)
length-last [] x = refl
length-last (y ∷ xs) x = ap suc (length-last xs x)

pub read_next : (text rest after : List ℕ) (at : ℕ) (number : Num) (told told' : Bool) (read read' : List ℤ) → at < length read → AreReadTo text rest at told read → HasNumberFirst rest number after → Puts number at told read told' read' →
    AreReadTo text after (at + 1) told' read'
read_next text rest after at number told told' read read' less so first puts = record {
  fields = so.fields ++ first.field ∷ [];
  count = (let e : length (so.fields ++ first.field ∷ []) ≡ suc (length so.fields) = length-last so.fields first.field in let c : length so.fields ≡ at = so.count in omega (arith, e, c));
  spell = all_last spells_number so.fields first.field so.spell first.spells;
  whole = λ more is.
      let same : more ≡ first.more = some_is (sym is ∙ first.rest) in
      so.whole (first.field ∷ more) (first.whole ∙ ap (λ m. Some (first.field ∷ m)) (sym same)) ∙ ap Some (sym (append_assoc so.fields (first.field ∷ []) more));
  none = λ h. let clash : Some first.more ≡ None = sym first.rest ∙ h in cc;
  all = by_case.0;
  large = by_case.1;
}
  where
    some_is : {X : Type 0} {x y : X} → Some x ≡ Some y → x ≡ y
    some_is h = cc

    Result : Type 0
    Result = (told' ≡ true → (k : ℕ) → k < at + 1 → get_or read' k (pos 0) ≡ get_or (map spelled_number (so.fields ++ first.field ∷ [])) k (pos 0)) × (told' ≡ false → list_all (is_within most_size) (map spelled_number (so.fields ++ first.field ∷ [])) ≡ false)

    is_told : Puts (Is (spelled_number first.field)) at told read told' read' → Result
    is_told (t, r) = (
      λ true_now. below_more _ _
          (λ k h. let ne : k ≢ at = omega arith in let front : k < length so.fields = (let c : length so.fields ≡ at = so.count in omega (arith, c, h)) in ap (λ (xs : List ℤ). get_or xs k (pos 0)) r ∙ (get_or-set_other read at k (spelled_number first.field) (pos 0) ne ∙ (so.all (sym t ∙ true_now) k h ∙ sym (get_front so.fields first.field k front))))
          (ap (λ (xs : List ℤ). get_or xs at (pos 0)) r ∙ (get_or-set_same read at (spelled_number first.field) (pos 0) less ∙ (sym (get_last so.fields first.field) ∙ ap (λ n. get_or (map spelled_number (so.fields ++ first.field ∷ [])) n (pos 0)) so.count))),
      λ h. front_fails (is_within most_size) spelled_number so.fields first.field (so.large (sym t ∙ h)),
    )

    is_large : is_within most_size (spelled_number first.field) ≡ false → Puts Large at told read told' read' → Result
    is_large out (t, r) = (
      λ true_now. let clash : false ≡ true = sym t ∙ true_now in cc,
      λ h. last_fails (is_within most_size) spelled_number so.fields first.field out,
    )

    by_case : Result
    by_case = elim (num_cases first.field first.spells) [
      | inl e ↦ is_told (subst (λ n. Puts n at told read told' read') (first.is ∙ e) puts)
      | inr e ↦ is_large e.1 (subst (λ n. Puts n at told read told' read') (first.is ∙ e.0) puts)
    ]

-- ---- the end

off_count : (n count : ℕ) (b : Bool) (list : List ℤ) → (n ≡ count → ⊥) → cond ((n == count) && b) (Some list) None ≡ None
off_count n count b list h = go (n == count) refl
  where
    go : (e : Bool) → (n == count) ≡ e → cond ((n == count) && b) (Some list) None ≡ None
    go true e = absurd (h (eqb→eq n count (passes _ e)))
    go false e = ap (λ t. cond (t && b) (Some list) None) e

off_spelling : (a b : Bool) (list : List ℤ) → b ≡ false → cond (a && b) (Some list) None ≡ None
off_spelling true b list h = ap (λ t. cond t (Some list) None) h
off_spelling false b list h = refl

middle_fails : (xs : List (List ℕ)) (y : List ℕ) (ys : List (List ℕ)) → spells_number y ≡ false → list_all spells_number (xs ++ y ∷ ys) ≡ false
middle_fails [] y ys h = ap (λ b. b && list_all spells_number ys) h
middle_fails (x ∷ xs) y ys h = ap (λ b. spells_number x && b) (middle_fails xs y ys h) ∙ none (spells_number x)
  where
    none : (b : Bool) → (b && false) ≡ false
    none true = refl
    none false = refl

length-parts : {X : Type 0} (xs ys : List X) → length (xs ++ ys) ≡ length xs + length ys
length-parts xs ys = length-append xs ys

-- no number comes next, where one is to come
pub none_next : (text rest : List ℕ) (at count : ℕ) (told : Bool) (read : List ℤ) → AreReadTo text rest at told read → HasNone rest → at < count → numbers_in count (comma_fields text) ≡ None
none_next text rest at count told read so none less = go (comma_fields rest) refl
  where
    short : length (so.fields ++ []) ≡ count → ⊥
    short h = let e : length (so.fields ++ []) ≡ length so.fields = ap length (append-nil so.fields) in let c : length so.fields ≡ at = so.count in omega (arith, e, c, h, less)

    go : (o : Option (List (List ℕ))) → comma_fields rest ≡ o → numbers_in count (comma_fields text) ≡ None
    go None e = ap (numbers_in count) (so.none e)
    go (Some []) e = ap (numbers_in count) (so.whole [] e) ∙ off_count (length (so.fields ++ [])) count _ _ short
    go (Some (field ∷ more)) e = ap (numbers_in count) (so.whole (field ∷ more) e) ∙ off_spelling (length (so.fields ++ field ∷ more) == count) _ _ (middle_fails so.fields field more (none field more e))

-- more comes, where all numbers have come
pub more_left : (text rest : List ℕ) (count : ℕ) (told : Bool) (read : List ℤ) → AreReadTo text rest count told read → 0 < length rest → numbers_in count (comma_fields text) ≡ None
more_left text [] count told read so some = absurd (omega arith)
more_left text (byte ∷ bytes) count told read so some = go (comma_fields (byte ∷ bytes)) refl
  where
    never : (byte == 44) ≡ true → (Some (pieces_of 44 bytes) ≡ Some []) → ⊥
    never _ h = let parts : Cut bytes = cut bytes in let clash : Some (first_field bytes ∷ parts.more) ≡ Some [] = ap Some (sym parts.whole) ∙ h in cc

    empty : comma_fields (byte ∷ bytes) ≡ Some [] → ⊥
    empty h = by (byte == 44) refl
      where
        by : (b : Bool) → (byte == 44) ≡ b → ⊥
        by true e = never e (sym (ap (λ b. cond b (Some (pieces_of 44 bytes)) None) e) ∙ h)
        by false e = let clash : None ≡ Some [] = sym (ap (λ b. cond b (Some (pieces_of 44 bytes)) None) e) ∙ h in cc

    long : (field : List ℕ) (more : List (List ℕ)) → length (so.fields ++ field ∷ more) ≡ count → ⊥
    long field more h = let e : length (so.fields ++ field ∷ more) ≡ length so.fields + length (field ∷ more) = length-parts so.fields (field ∷ more) in let c : length so.fields ≡ count = so.count in omega (arith, e, c, h)

    go : (o : Option (List (List ℕ))) → comma_fields (byte ∷ bytes) ≡ o → numbers_in count (comma_fields text) ≡ None
    go None e = ap (numbers_in count) (so.none e)
    go (Some []) e = absurd (empty e)
    go (Some (field ∷ more)) e = ap (numbers_in count) (so.whole (field ∷ more) e) ∙ off_count (length (so.fields ++ field ∷ more)) count _ _ (long field more)

same_items : (xs ys : List ℤ) → length xs ≡ length ys → ((k : ℕ) → k < length xs → get_or xs k (pos 0) ≡ get_or ys k (pos 0)) → xs ≡ ys
same_items [] [] h each = refl
same_items [] (y ∷ ys) h each = absurd (no h)
  where
    no : zero ≡ suc (length ys) → ⊥
    no h = omega arith
same_items (x ∷ xs) [] h each = absurd (no h)
  where
    no : suc (length xs) ≡ zero → ⊥
    no h = omega arith
same_items (x ∷ xs) (y ∷ ys) h each = ap₂ (λ a b. a ∷ b) (each 0 (omega arith)) (same_items xs ys (less h) (λ k l. each (suc k) (omega arith)))
  where
    less : suc (length xs) ≡ suc (length ys) → length xs ≡ length ys
    less h = omega arith

-- all numbers have come, and nothing more
pub all_read : (text rest : List ℕ) (told : Bool) (read : List ℤ) → AreReadTo text rest (length read) told read → length rest ≡ 0 → AreRead text told read
all_read text [] told read so none =
    let fields_are : comma_fields text ≡ Some so.fields = so.whole [] refl ∙ ap Some (append-nil so.fields) in
    let counted : length (map spelled_number so.fields) ≡ length read = length-map so.fields spelled_number ∙ so.count in
    record {
      numbers = map spelled_number so.fields;
      form = ap (numbers_in (length read)) fields_are ∙ ap (λ b. cond b (Some (map spelled_number so.fields)) None) (and_from (length so.fields == length read) (list_all spells_number so.fields) (eq-eqb (length so.fields) (length read) so.count) so.spell);
      all = λ e. same_items read (map spelled_number so.fields) (sym counted) (so.all e);
      large = so.large;
    }
all_read text (byte ∷ rest) told read so none = absurd (no none)
  where
    no : suc (length rest) ≡ zero → ⊥
    no h = omega arith

-- ---- at 128 bits

within_size : (n : ℤ) → unsigned_abs n ≤ most_size → SFits w128 n
within_size (pos a) h = within_128 (pos a) (record { low = omega (arith, ints); high = omega (arith, ints, h) })
within_size (negsuc a) h = within_128 (negsuc a) (record { low = omega (arith, ints, h); high = omega (arith, ints) })

-- a number that was told is what 128 bits hold
pub told_fits : (text after : List ℕ) (value : ℤ) → HasNumberFirst text (Is value) after → to_z w128 (of_z w128 value) ≡ value
told_fits text after value first = to_z-of_z w128 value (within_size value (read_is first.field value (sym first.is)).1)
