-- What was written so far, and what waits.
use Rattle.std.proofs.Common.{◌≡◌, ℕ, ◌+◌, ◌<◌, ◌≤◌, List, [], ◌∷◌, ◌++◌, length, take, drop, get_or, Option, None, Some, Result, Ok, Err, OnOk, OnErr, slice_get, option_map, option_and_then, refl, sym, ap, ap₂, ◌∙◌, subst, arith, suc, zero, append_assoc, append-nil, take-append-drop, ◌⊎◌, inl, inr}
use Rattle.std.proofs.KnownBytes.{Appends-nil, Appends-trans}
use Rattle.std.proofs.lemmas.Bool.{cases_lt}
use Rattle.std.proofs.lemmas.List.{take_more, take_all, take-append-le}
use Rattle.std.proofs.lemmas.List.Concat.{flat_map-append}
use Rattle.std.proofs.lemmas.Option.{get_or_from_slice_get, slice_get-get_or}
use Rattle.std.specs.Io.KnownBytes.{Appends}
use Rattle.clr_io.specs.Files.{Files, around_last, last_bytes}
use Rattle.clr_season.specs.Season.{Season, IsSeason}
use Rattle.clr_cert.specs.declared.place.Place.{Place}
use Rattle.clr_cert.specs.declared.place.Place.TheVariants.{Head, End}
use Rattle.clr_cert.specs.Entries.{CertEntries}
use Rattle.clr_cert.specs.Lines.{cert_text, line_at, lines_text}
use Rattle.clr_cert.specs.Places.{IsPlaceOf, places, walk}
use Rattle.clr_cert.specs.Writing.{IsSent, WritesFront, with_file}
use Rattle.clr_cert.proofs.Walking.{walk_next}

-- ---- texts

-- nothing was written, and nothing waits
pub nothing_sent : (w : Option (List ℕ)) (waiting : List ℕ) → waiting ≡ [] → IsSent w w [] [] waiting
nothing_sent w waiting e = record { sent = []; whole = e; written = Appends-nil w }

-- a text more, and then what of it waits no more
pub sent_more : (a b c : Option (List ℕ)) (text line waiting full left : List ℕ) → IsSent a b [] text waiting → full ≡ waiting ++ line → IsSent b c full [] left → IsSent a c [] (text ++ line) left
sent_more a b c text line waiting full left p is q = record {
  sent = p.sent ++ q.sent;
  whole = append_assoc p.sent q.sent left ∙ (ap (λ t. p.sent ++ t) (q.whole ∙ (append-nil full ∙ is)) ∙ (sym (append_assoc p.sent waiting line) ∙ ap (λ t. t ++ line) p.whole));
  written = Appends-trans a b c p.sent q.sent p.written q.written;
}

-- all that waited
pub sent_all : (a b c : Option (List ℕ)) (text waiting : List ℕ) → IsSent a b [] text waiting → Appends b c waiting → Appends a c text
sent_all a b c text waiting p q = subst (λ t. Appends a c t) p.whole (Appends-trans a b c p.sent waiting p.written q)

-- a front of a front is a front of the whole
front_of : (k : ℕ) (xs ys : List ℕ) → (m : ℕ) × (take k xs ≡ take m (xs ++ ys))
front_of k xs ys = by_size (cases_lt (length xs) k)
  where
    by_size : (length xs < k) ⊎ (k ≤ length xs) → (m : ℕ) × (take k xs ≡ take m (xs ++ ys))
    by_size (inl more) = (length xs, take_all k xs (omega arith) ∙ (sym (take_all (length xs) xs (omega arith)) ∙ sym (take-append-le (length xs) xs ys (omega arith))))
    by_size (inr less) = (k, sym (take-append-le k xs ys less))

take_behind : (xs ys : List ℕ) (n : ℕ) → xs ++ take n ys ≡ take (length xs + n) (xs ++ ys)
take_behind [] ys n = ap (λ k. take k ys) (plain n)
  where
    plain : (k : ℕ) → k ≡ 0 + k
    plain k = omega arith
take_behind (x ∷ xs) ys n = ap (λ t. x ∷ t) (take_behind xs ys n) ∙ ap (λ k. take k (x ∷ (xs ++ ys))) (next (length xs) n)
  where
    next : (a b : ℕ) → suc (a + b) ≡ suc a + b
    next a b = omega arith

-- a front of what waited
pub sent_front : (a b c : Option (List ℕ)) (text line waiting full rest whole : List ℕ) → IsSent a b [] text waiting → full ≡ waiting ++ line → WritesFront b c full → whole ≡ (text ++ line) ++ rest → WritesFront a c whole
sent_front a b c text line waiting full rest whole p is (n, q) e =
    let joined : p.sent ++ full ≡ text ++ line = ap (λ t. p.sent ++ t) is ∙ (sym (append_assoc p.sent waiting line) ∙ ap (λ t. t ++ line) p.whole) in
    let (m, same) = front_of (length p.sent + n) (text ++ line) rest in
    (m, subst (λ t. Appends a c t) (take_behind p.sent full n ∙ (ap (take (length p.sent + n)) joined ∙ (same ∙ ap (take m) (sym e)))) (Appends-trans a b c p.sent (take n full) p.written q))

-- ---- rows

-- the place of a row of the walk is that of the row's line
pub place_at : (season : Season) (row : ℕ) (place : Place) → slice_get (walk season) row ≡ Some place → row < length (places season) → get_or (places season) row End ≡ place
place_at season row place here low = sym (in_front (places season) row low) ∙ get_or_from_slice_get (walk season) row place End here
  where
    in_front : (xs : List Place) (k : ℕ) → k < length xs → get_or (xs ++ End ∷ []) k End ≡ get_or xs k End
    in_front [] k h = absurd (omega arith)
    in_front (x ∷ xs) zero h = refl
    in_front (x ∷ xs) (suc k) h = in_front xs k (omega arith)

-- the lines of one place more
pub lines_more : (season : Season) (entries : CertEntries) (row : ℕ) (place : Place) → slice_get (walk season) row ≡ Some place → row < length (places season) →
    lines_text season entries (take (row + 1) (places season)) ≡ lines_text season entries (take row (places season)) ++ (line_at season entries place ++ 10 ∷ [])
lines_more season entries row place here low =
    ap (lines_text season entries) (take_more (places season) row End low)
    ∙ (flat_map-append (λ p. line_at season entries p ++ 10 ∷ []) (take row (places season)) (get_or (places season) row End ∷ [])
    ∙ (ap (λ t. lines_text season entries (take row (places season)) ++ t) (append-nil (line_at season entries (get_or (places season) row End) ++ 10 ∷ [])) ∙ ap (λ p. lines_text season entries (take row (places season)) ++ (line_at season entries p ++ 10 ∷ [])) (place_at season row place here low)))

-- the text is the lines of the first rows and those of the others
pub text_split : (season : Season) (entries : CertEntries) (row : ℕ) → cert_text season entries ≡ lines_text season entries (take row (places season)) ++ lines_text season entries (drop row (places season))
text_split season entries row =
    ap (lines_text season entries) (sym (take-append-drop row (places season))) ∙ flat_map-append (λ p. line_at season entries p ++ 10 ∷ []) (take row (places season)) (drop row (places season))

-- the walk starts at the head
pub first_place : (season : Season) → slice_get (walk season) 0 ≡ Some Head
unfolding places
first_place season = refl

-- and the place after that of a row is that of the next
pub next_place : (season : Season) (row : ℕ) (next : Place) → row < length (places season) → next ≡ get_or (walk season) (row + 1) End → slice_get (walk season) (row + 1) ≡ Some next
next_place season row next low is = slice_get-get_or (walk season) (row + 1) End (within (places season) row low) ∙ ap Some (sym is)
  where
    within : (xs : List Place) (k : ℕ) → k < length xs → k + 1 < length (xs ++ End ∷ [])
    within [] k h = absurd (omega arith)
    within (x ∷ xs) zero h = some xs
      where
        some : (ys : List Place) → 0 + 1 < suc (length (ys ++ End ∷ []))
        some [] = omega arith
        some (y ∷ ys) = omega arith
    within (x ∷ xs) (suc k) h = let rest = within xs k (omega arith) in omega arith

pub place_of_row : (season : Season) (row : ℕ) (place : Place) → IsSeason season → slice_get (walk season) row ≡ Some place → IsPlaceOf season place
place_of_row season row place is here = (walk_next season place row is here).within

-- ---- files

-- the files with one more at their end, by what stands round it and its bytes
file_at_end : (fs files : Files) (name bytes : List ℕ) → around_last fs ≡ files ++ (name, []) ∷ [] → last_bytes fs ≡ Some bytes → fs ≡ files ++ (name, bytes) ∷ []
file_at_end [] files name bytes p q = absurd (no q)
  where
    no : None ≡ Some bytes → ⊥
    no e = cc
file_at_end ((n, b) ∷ []) [] name bytes p q =
    let first : ◌≡◌ {A = List ℕ × List ℕ} (n, []) (name, []) = cc in
    let held : b ≡ bytes = cc in
    λ i. ((first i).0, held i) ∷ []
file_at_end ((n, b) ∷ []) (f ∷ []) name bytes p q = absurd (no p)
  where
    no : (n, []) ∷ [] ≡ f ∷ (name, []) ∷ [] → ⊥
    no e = cc
file_at_end ((n, b) ∷ []) (f ∷ g ∷ files) name bytes p q = absurd (no p)
  where
    no : (n, []) ∷ [] ≡ f ∷ (g ∷ files ++ (name, []) ∷ []) → ⊥
    no e = cc
file_at_end (f ∷ g ∷ fs) [] name bytes p q = absurd (no g fs p)
  where
    no : (g : List ℕ × List ℕ) (fs : Files) → f ∷ around_last (g ∷ fs) ≡ (name, []) ∷ [] → ⊥
    no g [] e = cc
    no g (h ∷ fs) e = cc
file_at_end (f ∷ g ∷ fs) (h ∷ files) name bytes p q =
    let same : f ≡ h = cc in
    let rest : around_last (g ∷ fs) ≡ files ++ (name, []) ∷ [] = cc in
    ap₂ ◌∷◌ same (file_at_end (g ∷ fs) files name bytes rest q)

last_of : (files : Files) (name bytes : List ℕ) → last_bytes (files ++ (name, bytes) ∷ []) ≡ Some bytes
last_of [] name bytes = refl
last_of (f ∷ []) name bytes = refl
last_of (f ∷ g ∷ files) name bytes = last_of (g ∷ files) name bytes

around_of : (files : Files) (name : List ℕ) → around_last (files ++ (name, []) ∷ []) ≡ files ++ (name, []) ∷ []
around_of [] name = refl
around_of (f ∷ []) name = refl
around_of (f ∷ g ∷ files) name = ap (λ t. f ∷ t) (around_of (g ∷ files) name)

-- A new file, to which a text was written: it has the text.
pub file_written : (before now : Option Files) (name text : List ℕ) (around round : Option Files) (written wrote : Option (List ℕ)) →
    around ≡ option_map around_last (with_file before name []) → written ≡ option_and_then last_bytes (with_file before name []) → round ≡ option_map around_last now → wrote ≡ option_and_then last_bytes now →
    round ≡ around → Appends written wrote text → now ≡ with_file before name text
file_written None None name text around round written wrote a b c d e f = refl
file_written None (Some fs) name text around round written wrote a b c d e f = absurd (no (sym c ∙ (e ∙ a)))
  where
    no : Some (around_last fs) ≡ None → ⊥
    no e = cc
file_written (Some files) None name text around round written wrote a b c d e f = absurd (no (sym c ∙ (e ∙ a)))
  where
    no : None ≡ Some (around_last (files ++ (name, []) ∷ [])) → ⊥
    no e = cc
file_written (Some files) (Some fs) name text around round written wrote a b c d e f =
    let outside : around_last fs ≡ around_last (files ++ (name, []) ∷ []) = some_same (sym c ∙ (e ∙ a)) in
    let inside : last_bytes fs ≡ Some text = sym d ∙ appended (b ∙ last_of files name []) f in
    ap Some (file_at_end fs files name text (outside ∙ around_of files name) inside)
  where
    some_same : {x y : Files} → Some x ≡ Some y → x ≡ y
    some_same e = cc

    appended : {v w : Option (List ℕ)} → v ≡ Some [] → Appends v w text → w ≡ Some text
    appended {v} {w} e f = of w (subst (λ t. Appends t w text) e f)
      where
        of : (w : Option (List ℕ)) → Appends (Some []) w text → w ≡ Some text
        of None f = absurd f
        of (Some y) f = ap Some f

-- ---- answers

pub on_ok : {T E : Type 0} {P Q : Type 0} (r : Result T E) → OnOk r P → (P → Q) → OnOk r Q
on_ok (Ok x) p f = f p
on_ok (Err e) p f = p

pub on_err : {T E : Type 0} {P Q : Type 0} (r : Result T E) → OnErr r P → (P → Q) → OnErr r Q
on_err (Ok x) p f = p
on_err (Err e) p f = f p
