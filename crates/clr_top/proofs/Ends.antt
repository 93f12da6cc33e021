-- Why runs end by the statuses by which they end.
use Rattle.std.proofs.Common.{◌≡◌, ◌∙◌, inl, inr, refl, ap, subst, ℕ, List, [], Some, None, false}
use Rattle.std.specs.Prelude.{◌≢◌, ◌⊎◌, IfSome, IsErrOf, Option, Result, Ok, Err}
use Rattle.clr_io.specs.Files.{Files}
use Rattle.clr_words.specs.Asked.{Ask, asked_of}
use Rattle.clr_words.specs.declared.asked.Job.TheVariants as j
use Rattle.clr_rules.specs.FirstPath.{NoPathObeys}
use Rattle.clr_rules.specs.Rules.{is_live}
use Rattle.clr_rules.proofs.FirstPaths.{some_or_none_obeys_lem}
use Rattle.clr_season.specs.Reads.{Stop, season_in}
use Rattle.clr_season.specs.Season.{Season}
use Rattle.clr_report.specs.declared.note.Cause.TheVariants.{Words, Refused, NoPath, ReadFault, Absent, WriteFault, TooLong, Cells, Size, Base, CertificateNo, PolicyJson, PolicyShape, PolicyUnknown, PolicyRule, Memory}
use Rattle.clr_report.specs.declared.note.Doc.{Doc}
use Rattle.clr_report.specs.declared.note.Cause.{Cause}
use Rattle.clr_top.specs.declared.ending.Status.{Status}
use Rattle.clr_top.specs.declared.ending.Status.TheVariants as s
use Rattle.clr_jobs.specs.Outputs.{Fails}
use Rattle.clr_jobs.specs.Runs.{Caused, EndsBefore, MakesSeason, ReadEnds, ReadsSeason, docs_asked, ending_asked, ends_by, plan_ends, season_ends}
use Rattle.clr_top.specs.Endings.{Exactly, status_of}

-- ---- the statuses

-- what a reading ends by is no fault of an output
pub unwritten : (files : Option Files) (words : List (List ℕ)) (taken : ℕ) (ShelfRose : Type 0) (ending : Cause) (doc : Doc) → EndsBefore files words taken ShelfRose ending → ending ≡ WriteFault doc → ⊥
unwritten files words taken ShelfRose ending doc (inl memory) is = cc
unwritten files words taken ShelfRose ending doc (inr (inl by_words)) is = let same : ending ≡ Words = by_words.0 in cc
unwritten files words taken ShelfRose ending doc (inr (inr (ask, asked, ends))) is = rw is at ends

write-status : (ending : Cause) → status_of ending ≡ s.WriteFault → (doc : Doc) × (ending ≡ WriteFault doc)
write-status Words is = cc
write-status (Refused doc row column why) is = cc
write-status NoPath is = cc
write-status (ReadFault doc) is = cc
write-status (Absent doc) is = cc
write-status (WriteFault doc) is = (doc, refl)
write-status (TooLong doc max) is = cc
write-status (Cells found) is = cc
write-status (Size found) is = cc
write-status Base is = cc
write-status (CertificateNo reason) is = cc
write-status PolicyJson is = cc
write-status (PolicyShape branch) is = cc
write-status (PolicyUnknown branch) is = cc
write-status (PolicyRule branch rule) is = cc
write-status Memory is = cc

-- the status of a fault of an output tells that an output failed
pub write-caused : (files : Option Files) (words : List (List ℕ)) (taken : ℕ) (ShelfRose DeskRose OutRose : Type 0) (ending : Cause) → status_of ending ≡ s.WriteFault → Caused files words taken ShelfRose DeskRose OutRose ending →
    (doc : Doc) × Fails (docs_asked words) DeskRose OutRose doc
write-caused files words taken ShelfRose DeskRose OutRose ending is (inl before) = let (doc, by) = write-status ending is in absurd (unwritten files words taken ShelfRose ending doc before by)
write-caused files words taken ShelfRose DeskRose OutRose ending is (inr (doc, by, fails, passes)) = (doc, fails)

read-ends : (files : Option Files) (ask : Ask) (taken : ℕ) (ShelfRose : Type 0) (ending : Cause) → status_of ending ≡ s.ReadFault → ReadEnds files ask taken ShelfRose ending → ShelfRose × (ask.job ≢ j.Make)
read-ends files ask taken ShelfRose Words is ends = cc
read-ends files ask taken ShelfRose (Refused doc row column why) is ends = cc
read-ends files ask taken ShelfRose NoPath is ends = cc
read-ends files ask taken ShelfRose (ReadFault doc) is ends = (ends.0, ends.1.0)
read-ends files ask taken ShelfRose (Absent doc) is ends = cc
read-ends files ask taken ShelfRose (WriteFault doc) is ends = cc
read-ends files ask taken ShelfRose (TooLong doc max) is ends = cc
read-ends files ask taken ShelfRose (Cells found) is ends = cc
read-ends files ask taken ShelfRose (Size found) is ends = cc
read-ends files ask taken ShelfRose Base is ends = cc
read-ends files ask taken ShelfRose (CertificateNo reason) is ends = cc
read-ends files ask taken ShelfRose PolicyJson is ends = cc
read-ends files ask taken ShelfRose (PolicyShape branch) is ends = cc
read-ends files ask taken ShelfRose (PolicyUnknown branch) is ends = cc
read-ends files ask taken ShelfRose (PolicyRule branch rule) is ends = cc
read-ends files ask taken ShelfRose Memory is ends = cc

read-before : (files : Option Files) (words : List (List ℕ)) (taken : ℕ) (ShelfRose : Type 0) (ending : Cause) → status_of ending ≡ s.ReadFault → EndsBefore files words taken ShelfRose ending → ShelfRose × ReadsSeason words
read-before files words taken ShelfRose ending is (inl memory) = let status : status_of ending ≡ s.Memory = ap status_of memory in cc
read-before files words taken ShelfRose ending is (inr (inl by_words)) = let status : status_of ending ≡ s.Words = ap status_of by_words.0 in cc
read-before files words taken ShelfRose ending is (inr (inr (ask, asked, ends))) = let both = read-ends files ask taken ShelfRose ending is ends in (both.0, (ask, asked, both.1))

pub read-caused : (files : Option Files) (words : List (List ℕ)) (taken : ℕ) (ShelfRose DeskRose OutRose : Type 0) (ending : Cause) → status_of ending ≡ s.ReadFault → Caused files words taken ShelfRose DeskRose OutRose ending → ShelfRose × ReadsSeason words
read-caused files words taken ShelfRose DeskRose OutRose ending is (inl before) = read-before files words taken ShelfRose ending is before
read-caused files words taken ShelfRose DeskRose OutRose ending is (inr (doc, by, fails, passes)) = let status : status_of ending ≡ s.WriteFault = ap status_of by in cc

words-end : (files : Option Files) (ask : Ask) (taken : ℕ) (ShelfRose : Type 0) (ending : Cause) → status_of ending ≡ s.Words → ReadEnds files ask taken ShelfRose ending → ⊥
words-end files ask taken ShelfRose Words is ends = ends
words-end files ask taken ShelfRose (Refused doc row column why) is ends = cc
words-end files ask taken ShelfRose NoPath is ends = cc
words-end files ask taken ShelfRose (ReadFault doc) is ends = cc
words-end files ask taken ShelfRose (Absent doc) is ends = cc
words-end files ask taken ShelfRose (WriteFault doc) is ends = cc
words-end files ask taken ShelfRose (TooLong doc max) is ends = cc
words-end files ask taken ShelfRose (Cells found) is ends = cc
words-end files ask taken ShelfRose (Size found) is ends = cc
words-end files ask taken ShelfRose Base is ends = cc
words-end files ask taken ShelfRose (CertificateNo reason) is ends = cc
words-end files ask taken ShelfRose PolicyJson is ends = cc
words-end files ask taken ShelfRose (PolicyShape branch) is ends = cc
words-end files ask taken ShelfRose (PolicyUnknown branch) is ends = cc
words-end files ask taken ShelfRose (PolicyRule branch rule) is ends = cc
words-end files ask taken ShelfRose Memory is ends = cc

pub words-caused : (files : Option Files) (words : List (List ℕ)) (taken : ℕ) (ShelfRose DeskRose OutRose : Type 0) (ending : Cause) → status_of ending ≡ s.Words → Caused files words taken ShelfRose DeskRose OutRose ending → asked_of words ≡ None
words-caused files words taken ShelfRose DeskRose OutRose ending is (inl (inl memory)) = let status : status_of ending ≡ s.Memory = ap status_of memory in cc
words-caused files words taken ShelfRose DeskRose OutRose ending is (inl (inr (inl by_words))) = by_words.1
words-caused files words taken ShelfRose DeskRose OutRose ending is (inl (inr (inr (ask, asked, ends)))) = absurd (words-end files ask taken ShelfRose ending is ends)
words-caused files words taken ShelfRose DeskRose OutRose ending is (inr (doc, by, fails, passes)) = let status : status_of ending ≡ s.WriteFault = ap status_of by in cc

make-ends : (files : Option Files) (ask : Ask) (taken : ℕ) (ShelfRose : Type 0) (ending : Cause) → ask.job ≡ j.Make → ReadEnds files ask taken ShelfRose ending → status_of ending ≡ s.Memory
make-ends files ask taken ShelfRose Words make ends = absurd ends
make-ends files ask taken ShelfRose (Refused doc row column why) make ends = absurd (ends.0.0 make)
make-ends files ask taken ShelfRose NoPath make ends = let plan : ask.job ≡ j.Plan = ends.0 in cc
make-ends files ask taken ShelfRose (ReadFault doc) make ends = absurd (ends.1.0 make)
make-ends files ask taken ShelfRose (Absent doc) make ends = absurd (ends.0.0 make)
make-ends files ask taken ShelfRose (WriteFault doc) make ends = absurd ends
make-ends files ask taken ShelfRose (TooLong doc max) make ends = absurd (ends.2.0 make)
make-ends files ask taken ShelfRose (Cells found) make ends = absurd (ends.0 make)
make-ends files ask taken ShelfRose (Size found) make ends = absurd (ends.0 make)
make-ends files ask taken ShelfRose Base make ends = absurd (ends.0 make)
make-ends files ask taken ShelfRose (CertificateNo reason) make ends = absurd (ends.0 make)
make-ends files ask taken ShelfRose PolicyJson make ends = absurd (ends.0 make)
make-ends files ask taken ShelfRose (PolicyShape branch) make ends = absurd (ends.0 make)
make-ends files ask taken ShelfRose (PolicyUnknown branch) make ends = absurd (ends.0 make)
make-ends files ask taken ShelfRose (PolicyRule branch rule) make ends = absurd (ends.0 make)
make-ends files ask taken ShelfRose Memory make ends = refl

-- what is made ends by a fault of an output, or for want of memory
pub makes-caused : (files : Option Files) (words : List (List ℕ)) (taken : ℕ) (ShelfRose DeskRose OutRose : Type 0) (ending : Cause) → MakesSeason words → Caused files words taken ShelfRose DeskRose OutRose ending → (status_of ending ≡ s.WriteFault) ⊎ (status_of ending ≡ s.Memory)
makes-caused files words taken ShelfRose DeskRose OutRose ending makes (inl (inl memory)) = inr (ap status_of memory)
makes-caused files words taken ShelfRose DeskRose OutRose ending (ask, asked, make) (inl (inr (inl by_words))) = let none : asked_of words ≡ None = by_words.1 in cc
makes-caused files words taken ShelfRose DeskRose OutRose ending (ask, asked, make) (inl (inr (inr (other, other_asked, ends)))) = let same : ask ≡ other = cc in inr (make-ends files other taken ShelfRose ending (subst (λ a. a.job ≡ j.Make) same make) ends)
makes-caused files words taken ShelfRose DeskRose OutRose ending makes (inr (doc, by, fails, passes)) = inl (ap status_of by)

-- ---- exactly where the words and the files say so

exactly-of : (status : Status) (given : Option Cause) (ending : Cause) → given ≡ Some ending → status ≡ status_of ending → Exactly status given
exactly-of status given ending is by = rw is (inl by)

reading-fails : (given : Option Cause) → Exactly s.ReadFault given
reading-fails None = inr (inr (inl refl))
reading-fails (Some ending) = inr (inl refl)

memory-wanting : (given : Option Cause) → Exactly s.Memory given
memory-wanting None = inr (inr (inr refl))
memory-wanting (Some ending) = inr (inr refl)

plan-dead : (given : Result Season Stop) (season : Season) → given ≡ Ok season → NoPathObeys season.rules → season_ends plan_ends given ≡ Some NoPath
plan-dead given season is none = let dead : is_live season.rules [] ≡ false = (some_or_none_obeys_lem season.rules).none.1 none in rw (is, dead) refl

exactly-read : (held : Files) (ask : Ask) (taken : ℕ) (ShelfRose : Type 0) (ending : Cause) → ReadEnds (Some held) ask taken ShelfRose ending → Exactly (status_of ending) (ends_by held ask)
exactly-read held ask taken ShelfRose Words ends = absurd ends
exactly-read held ask taken ShelfRose (Refused doc row column why) ends = exactly-of s.Refused (ends_by held ask) (Refused doc row column why) ends.1.1 refl
exactly-read held ask taken ShelfRose NoPath (plan, (season, is, facts, none)) = exactly-of s.NoPath (ends_by held ask) NoPath (rw plan (plan-dead (season_in held ask.folder) season is none)) refl
exactly-read held ask taken ShelfRose (ReadFault doc) ends = reading-fails (ends_by held ask)
exactly-read held ask taken ShelfRose (Absent doc) ends = exactly-of s.Absent (ends_by held ask) (Absent doc) ends.1.1 refl
exactly-read held ask taken ShelfRose (WriteFault doc) ends = absurd ends
exactly-read held ask taken ShelfRose (TooLong doc max) ends = exactly-of s.Limit (ends_by held ask) (TooLong doc max) ends.3.1 refl
exactly-read held ask taken ShelfRose (Cells found) ends = exactly-of s.Limit (ends_by held ask) (Cells found) ends.1 refl
exactly-read held ask taken ShelfRose (Size found) ends = exactly-of s.Limit (ends_by held ask) (Size found) ends.1 refl
exactly-read held ask taken ShelfRose Base ends = exactly-of s.Limit (ends_by held ask) Base ends.1 refl
exactly-read held ask taken ShelfRose (CertificateNo reason) ends = exactly-of s.CertificateNo (ends_by held ask) (CertificateNo reason) ends.1 refl
exactly-read held ask taken ShelfRose PolicyJson ends = exactly-of s.PolicyNo (ends_by held ask) PolicyJson ends.1 refl
exactly-read held ask taken ShelfRose (PolicyShape branch) ends = exactly-of s.PolicyNo (ends_by held ask) (PolicyShape branch) ends.1 refl
exactly-read held ask taken ShelfRose (PolicyUnknown branch) ends = exactly-of s.PolicyNo (ends_by held ask) (PolicyUnknown branch) ends.1 refl
exactly-read held ask taken ShelfRose (PolicyRule branch rule) ends = exactly-of s.PolicyNo (ends_by held ask) (PolicyRule branch rule) ends.1 refl
exactly-read held ask taken ShelfRose Memory ends = memory-wanting (ends_by held ask)

no-words : (held : Files) (words : List (List ℕ)) → asked_of words ≡ None → ending_asked held words ≡ Some Words
no-words held words none = rw none refl

some-words : (held : Files) (words : List (List ℕ)) (ask : Ask) → asked_of words ≡ Some ask → ending_asked held words ≡ ends_by held ask
some-words held words ask asked = rw asked refl

exactly-passed : (status : Status) (given : Option Cause) → given ≡ None → (status ≡ s.Ok) ⊎ (status ≡ s.WriteFault) → Exactly status given
exactly-passed status given none (inl ok) = rw none (inl ok)
exactly-passed status given none (inr written) = rw none (inr (inl written))

exactly-caused : (held : Files) (words : List (List ℕ)) (taken : ℕ) (ShelfRose DeskRose OutRose : Type 0) (ending : Cause) → Caused (Some held) words taken ShelfRose DeskRose OutRose ending → Exactly (status_of ending) (ending_asked held words)
exactly-caused held words taken ShelfRose DeskRose OutRose ending (inl (inl memory)) = rw memory (memory-wanting (ending_asked held words))
exactly-caused held words taken ShelfRose DeskRose OutRose ending (inl (inr (inl by_words))) = exactly-of (status_of ending) (ending_asked held words) Words (no-words held words by_words.1) (ap status_of by_words.0)
exactly-caused held words taken ShelfRose DeskRose OutRose ending (inl (inr (inr (ask, asked, ends)))) = rw (some-words held words ask asked) (exactly-read held ask taken ShelfRose ending ends)
exactly-caused held words taken ShelfRose DeskRose OutRose ending (inr (doc, by, fails, passes)) = exactly-passed (status_of ending) (ending_asked held words) passes (inr (ap status_of by))

-- the same where files are told or not
pub exactly-told :
    (files : Option Files) (words : List (List ℕ)) (taken : ℕ) (ShelfRose DeskRose OutRose : Type 0) (ending : Cause) (status : Status) → status ≡ status_of ending → Caused files words taken ShelfRose DeskRose OutRose ending →
    IfSome files (λ held. Exactly status (ending_asked held words))
exactly-told None words taken ShelfRose DeskRose OutRose ending status by caused = tt
exactly-told (Some held) words taken ShelfRose DeskRose OutRose ending status by caused = rw by (exactly-caused held words taken ShelfRose DeskRose OutRose ending caused)

pub exactly-ok : (files : Option Files) (words : List (List ℕ)) → IfSome files (λ held. ending_asked held words ≡ None) → IfSome files (λ held. Exactly s.Ok (ending_asked held words))
exactly-ok None words passes = tt
exactly-ok (Some held) words passes = exactly-passed s.Ok (ending_asked held words) passes (inl refl)

-- ---- completeness

no-fails : (docs : List Doc) (DeskRose OutRose : Type 0) (doc : Doc) → (DeskRose → ⊥) → (OutRose → ⊥) → Fails docs DeskRose OutRose doc → ⊥
no-fails docs DeskRose OutRose doc calm_desk calm_out (inl desk) = calm_desk desk.1
no-fails docs DeskRose OutRose doc calm_desk calm_out (inr out) = calm_out out.1

-- where outputs are come to and nothing fails, memory was wanting
pub only-memory :
    (status : Status) (given : Option Cause) (docs : List Doc) (ShelfRose DeskRose OutRose : Type 0) → Exactly status given → given ≡ None → (status ≡ s.ReadFault → ShelfRose) → (status ≡ s.WriteFault → (doc : Doc) × Fails docs DeskRose OutRose doc) →
    (ShelfRose → ⊥) → (DeskRose → ⊥) → (OutRose → ⊥) → (status ≡ s.Ok) ⊎ (status ≡ s.Memory)
only-memory status (Some ending) docs ShelfRose DeskRose OutRose exact is read write calm_shelf calm_desk calm_out = cc
only-memory status None docs ShelfRose DeskRose OutRose (inl ok) is read write calm_shelf calm_desk calm_out = inl ok
only-memory status None docs ShelfRose DeskRose OutRose (inr (inl written)) is read write calm_shelf calm_desk calm_out = let (doc, fails) = write written in absurd (no-fails docs DeskRose OutRose doc calm_desk calm_out fails)
only-memory status None docs ShelfRose DeskRose OutRose (inr (inr (inl failed))) is read write calm_shelf calm_desk calm_out = absurd (calm_shelf (read failed))
only-memory status None docs ShelfRose DeskRose OutRose (inr (inr (inr memory))) is read write calm_shelf calm_desk calm_out = inr memory

-- ---- what a run that writes all isn't

pub ok-no-read : s.Ok ≢ s.ReadFault
ok-no-read is = cc

pub ok-no-write : s.Ok ≢ s.WriteFault
ok-no-write is = cc

pub ok-no-words : s.Ok ≢ s.Words
ok-no-words is = cc

-- ---- what was taken

-- the cause of an ending, and a default where there is none
abbrev by-cause : {X : Type 0} → Cause → Result X Cause → Cause
by-cause default (Ok value) = default
by-cause default (Err cause) = cause

pub within-told : {X : Type 0} (status : Status) (ending : Cause) (Few Same : Type 0) → status ≡ status_of ending → Few ⊎ (IsErrOf {T = X} {E = Cause} (Err ending) Memory × Same) → Few ⊎ ((status ≡ s.Memory) × Same)
within-told status ending Few Same told (inl few) = inl few
within-told status ending Few Same told (inr (is, same)) = inr (told ∙ ap (λ r. status_of (by-cause ending r)) is, same)
