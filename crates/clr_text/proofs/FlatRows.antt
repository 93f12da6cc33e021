-- Fields that stand one behind another, and the rows that they make.
use Rattle.std.proofs.Common.{◌≡◌, ◌<◌, ◌≤◌, ◌+◌, ◌*◌, ◌∙◌, ℕ, zero, suc, List, [], ◌∷◌, ◌++◌, length, map, take, drop, get_or, append_assoc, refl, ap, sym, arith}
use Rattle.std.specs.Prelude.{All, Some, None}
use Rattle.std.proofs.Math.ListN.{get_or-eq_default}
use Rattle.std.proofs.Math.Seq.{drop-append_seam, take-append_seam}
use Rattle.std.proofs.lemmas.List.{append-nil, get_or-drop, get_or-take, length-append, length-drop, length-map, length-take, map-append, take_more}
use Rattle.std.proofs.Math.Nat.{mul-le-mul_right}
use Rattle.csv.specs.Records.{field_at}
use Rattle.clr_text.specs.Fields.{cut_of}
use Rattle.clr_text.specs.Tables.{Rows, cell, rows_of}

-- each row has so many fields
abbrev pub OfWidth : ℕ → Rows → Type 0
OfWidth width rows = (j : ℕ) → j < length rows → length (get_or rows j []) ≡ width

-- the fields of the rows, one behind another, without their blanks
abbrev pub joined : Rows → List (List ℕ)
joined [] = []
joined (fields ∷ rows) = map cut_of fields ++ joined rows

-- the rows without the blanks of their fields
abbrev pub cut_all : Rows → Rows
cut_all = map (λ fields. map cut_of fields)

pub joined-more : (rows : Rows) (fields : List (List ℕ)) → joined (rows ++ fields ∷ []) ≡ joined rows ++ map cut_of fields
joined-more [] fields = append-nil (map cut_of fields)
joined-more (x ∷ rows) fields = ap (λ fs. map cut_of x ++ fs) (joined-more rows fields) ∙ sym (append_assoc (map cut_of x) (joined rows) (map cut_of fields))

pub width-more : (width : ℕ) (rows : Rows) (fields : List (List ℕ)) → OfWidth width rows → length fields ≡ width → OfWidth width (rows ++ fields ∷ [])
width-more width [] fields all same zero less = same
width-more width [] fields all same (suc j) less = absurd (omega arith)
width-more width (x ∷ rows) fields all same zero less = all 0 (omega arith)
width-more width (x ∷ rows) fields all same (suc j) less =
    let under : j < length (rows ++ fields ∷ []) = omega arith in
    width-more width rows fields (λ i le. all (suc i) (omega arith)) same j under

-- the rows that such fields make
pub rows_of-joined : (width : ℕ) (rows : Rows) → OfWidth width rows → rows_of width (length rows) (joined rows) ≡ cut_all rows
rows_of-joined width [] all = refl
rows_of-joined width (x ∷ rows) all =
    let size : length (map cut_of x) ≡ width = length-map x cut_of ∙ all 0 (omega arith) in
    let front : take width (map cut_of x ++ joined rows) ≡ map cut_of x = rw (← size) (take-append_seam (map cut_of x) (joined rows)) in
    let behind : drop width (map cut_of x ++ joined rows) ≡ joined rows = rw (← size) (drop-append_seam (map cut_of x) (joined rows)) in
    rw (front, behind) (ap (λ (rs : Rows). map cut_of x ∷ rs) (rows_of-joined width rows (λ i le. all (suc i) (omega arith))))

pub length-joined : (width : ℕ) (rows : Rows) → OfWidth width rows → length (joined rows) ≡ length rows * width
length-joined width [] all = omega arith
length-joined width (x ∷ rows) all =
    let size : length (map cut_of x) ≡ width = length-map x cut_of ∙ all 0 (omega arith) in
    let rest : length (joined rows) ≡ length rows * width = length-joined width rows (λ i le. all (suc i) (omega arith)) in
    let sum : length (map cut_of x ++ joined rows) ≡ length (map cut_of x) + length (joined rows) = length-append (map cut_of x) (joined rows) in
    let more : suc (length rows) * width ≡ width + length rows * width = omega arith in
    rw (sum, size, rest) (sym more)

pub length-rows_of : (width rows : ℕ) (fields : List (List ℕ)) → length (rows_of width rows fields) ≡ rows
length-rows_of width zero fields = refl
length-rows_of width (suc rows) fields = ap suc (length-rows_of width rows (drop width fields))

-- a field of a row
pub cell-within : (width rows : ℕ) (fields : List (List ℕ)) (row column : ℕ) → row < rows → column < width → cell (rows_of width rows fields) row column ≡ get_or fields (row * width + column) []
cell-within width zero fields row column less within = absurd (omega arith)
cell-within width (suc rows) fields zero column less within = let place : column ≡ 0 * width + column = omega arith in get_or-take width fields column [] within ∙ ap (λ i. get_or fields i []) place
cell-within width (suc rows) fields (suc row) column less within =
    let under : row < rows = omega arith in
    let place : width + (row * width + column) ≡ suc row * width + column = omega arith in
    cell-within width rows (drop width fields) row column under within ∙ get_or-drop width fields (row * width + column) [] ∙ ap (λ i. get_or fields i []) place

-- behind a row's last field
pub cell-past : (width rows : ℕ) (fields : List (List ℕ)) (row column : ℕ) → row < rows → width ≤ column → cell (rows_of width rows fields) row column ≡ []
cell-past width zero fields row column less past = absurd (omega arith)
cell-past width (suc rows) fields zero column less past =
    let size : length (take width fields) ≤ column = omega (arith, length-take width fields) in
    get_or-eq_default (take width fields) [] size
cell-past width (suc rows) fields (suc row) column less past = let under : row < rows = omega arith in cell-past width rows (drop width fields) row column under past

pub there : (fields : List (List ℕ)) (i : ℕ) (f : List ℕ) → field_at fields i ≡ Some f → get_or fields i [] ≡ f
unfolding field_at
there [] i f e = cc e
there (g ∷ fields) zero f e = cc e
there (g ∷ fields) (suc i) f e = there fields i f e

pub absent : (fields : List (List ℕ)) (i : ℕ) → field_at fields i ≡ None → get_or fields i [] ≡ []
unfolding field_at
absent [] i e = refl
absent (g ∷ fields) zero e = cc e
absent (g ∷ fields) (suc i) e = absent fields i e

pub field-less : (fields : List (List ℕ)) (i : ℕ) (f : List ℕ) → field_at fields i ≡ Some f → i < length fields
unfolding field_at
field-less [] i f e = cc e
field-less (g ∷ fields) zero f e = omega arith
field-less (g ∷ fields) (suc i) f e = let under : i < length fields = field-less fields i f e in omega arith

pub field-past : (fields : List (List ℕ)) (i : ℕ) → field_at fields i ≡ None → length fields ≤ i
unfolding field_at
field-past [] i e = omega arith
field-past (g ∷ fields) zero e = cc e
field-past (g ∷ fields) (suc i) e = let past : length fields ≤ i = field-past fields i e in omega arith

-- a field more of a record
pub fields-more : (before fields now : List (List ℕ)) (i : ℕ) (f : List ℕ) → field_at fields i ≡ Some f → now ≡ before ++ map cut_of (take i fields) → now ++ cut_of f ∷ [] ≡ before ++ map cut_of (take (i + 1) fields)
fields-more before fields now i f at is =
    let less : i < length fields = field-less fields i f at in
    let more : take (i + 1) fields ≡ take i fields ++ f ∷ [] = take_more fields i [] less ∙ ap (λ g. take i fields ++ g ∷ []) (there fields i f at) in
    let cut : map cut_of (take (i + 1) fields) ≡ map cut_of (take i fields) ++ cut_of f ∷ [] = ap (map cut_of) more ∙ map-append cut_of (take i fields) (f ∷ []) in
    rw (is, cut) (append_assoc before (map cut_of (take i fields)) (cut_of f ∷ []))

-- the fields of a row are among those of all rows
pub rows-inside : (row rows width : ℕ) → row < rows → (row + 1) * width ≤ rows * width
rows-inside row rows width less = let below : row + 1 ≤ rows = omega arith in mul-le-mul_right width below

-- each row is as long as its width, of as many fields as rows of that width have
pub width-rows_of : (width rows : ℕ) (fields : List (List ℕ)) → length fields ≡ rows * width → All (λ row. length row ≡ width) (rows_of width rows fields)
width-rows_of width zero fields size k d less = absurd (omega arith)
width-rows_of width (suc rows) fields size zero d less =
    let more : suc rows * width ≡ width + rows * width = omega arith in
    let enough : width ≤ length fields = omega (arith, size, more) in
    omega (arith, enough, length-take width fields)
width-rows_of width (suc rows) fields size (suc k) d less =
    let under : k < length (rows_of width rows (drop width fields)) = omega arith in
    let more : suc rows * width ≡ width + rows * width = omega arith in
    let left : length (drop width fields) ≡ rows * width = omega (arith, size, more, length-drop width fields) in
    width-rows_of width rows (drop width fields) left k d under
