-- What is taken of the shelf's files, and when the shelf is left alone.
use Rattle.std.proofs.Common.{◌≡◌, ◌∙◌, ◌≤◌, inl, inr, refl, ap, sym, subst, ℕ, List, Some, None}
use Rattle.std.specs.Prelude.{◌≢◌, ◌⊎◌, IsErrOf, Option, Result, Ok, Err}
use Rattle.clr_words.specs.Asked.{Ask, asked_of}
use Rattle.clr_words.specs.declared.asked.Job.{Job}
use Rattle.clr_words.specs.declared.asked.Job.TheVariants as j
use Rattle.clr_report.specs.declared.note.Cause.TheVariants.{Words, Memory}
use Rattle.clr_report.specs.declared.note.Cause.{Cause}
use Rattle.clr_jobs.specs.Runs.{ReadsSeason}

-- an answer that is no want of memory took no more
pub few-taken : {X : Type 0} (value : X) (Few Same : Type 0) → Few ⊎ (IsErrOf {T = X} {E = Cause} (Ok value) Memory × Same) → Few
few-taken value Few Same (inl few) = few
few-taken value Few Same (inr (is, same)) = cc is

-- a job that reads a season ends before its first file for want of memory alone
pub unasked : (words : List (List ℕ)) (ending : Cause) → ReadsSeason words → (ending ≡ Memory) ⊎ ((ending ≡ Words) × (asked_of words ≡ None)) → ending ≡ Memory
unasked words ending reads (inl memory) = memory
unasked words ending (ask, asked, reads) (inr (by, none)) = cc

-- what is made reads no season
pub made-unread : (words : List (List ℕ)) (ask : Ask) → asked_of words ≡ Some ask → ask.job ≡ j.Make → ReadsSeason words → ⊥
made-unread words ask asked make (other, other_asked, reads) = let same : ask ≡ other = cc in reads (subst (λ a. a.job ≡ j.Make) same make)

-- each other job reads one
pub read-by : (words : List (List ℕ)) (ask : Ask) (job : Job) → asked_of words ≡ Some ask → ask.job ≡ job → job ≢ j.Make → ReadsSeason words
read-by words ask job asked is other = (ask, asked, λ make. other (sym is ∙ make))
