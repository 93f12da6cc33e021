-- How the job `judge` ends over its shelf.
use Rattle.std.proofs.Common.{◌≡◌, ◌≤◌, ℕ, ℤ, List, length, Some, None, true, refl, ◌∙◌, subst, inl, inr, rules}
use Rattle.std.specs.Prelude.{◌⊎◌, IfOk, IfSome, OnOk, nat_le, Option, Result, Ok, Err}
use Rattle.clr_io.specs.Files.{Files, held}
use Rattle.clr_num.specs.Rounding.{floor}
use Rattle.clr_season.specs.Season.{Season}
use Rattle.clr_season.specs.Reads.{most_bytes}
use Rattle.clr_words.specs.Asked.{Ask}
use Rattle.clr_policy.specs.Judged.{Objection, breaks_rule, judgement, no_base, too_large}
use Rattle.clr_policy.specs.PolicyFile.{Fault, no_json, no_shape, no_store, policy_of}
use Rattle.clr_policy.specs.Written.{Written}
use Rattle.clr_report.specs.declared.note.Doc.TheVariants as d
use Rattle.clr_report.specs.declared.note.Cause.TheVariants.{Size, Base, PolicyJson, PolicyShape, PolicyUnknown, PolicyRule, Memory}
use Rattle.clr_report.specs.declared.note.Cause.{Cause}
use Rattle.clr_jobs.specs.FileEnds.{EndsBy}
use Rattle.clr_jobs.specs.Judging.{ends_of_bytes, ends_of_judgement, ends_of_reading, judge_ends, policy_path}

-- Where the policy file is held and not too long, the job ends by its bytes.
held_ends : (files : Option Files) (season : Season) (ask : Ask) (bytes : List ℕ) → IfSome files (λ all. held (policy_path ask.folder) all ≡ Some bytes) → length bytes ≤ most_bytes →
    IfSome files (λ all. judge_ends season ask all ≡ ends_of_bytes season bytes)
unfolding judge_ends
held_ends None season ask bytes is short = tt
held_ends (Some all) season ask bytes is short = let fits : nat_le (length bytes) most_bytes ≡ true = search rules in rw (is, fits) refl

ended : (files : Option Files) (ends : Files → Option Cause) (a b : Option Cause) → IfSome files (λ all. ends all ≡ a) → a ≡ b → IfSome files (λ all. ends all ≡ b)
ended None ends a b is same = tt
ended (Some all) ends a b is same = is ∙ same

-- it reports
pub held_passes : (files : Option Files) (season : Season) (ask : Ask) (bytes : List ℕ) → IfSome files (λ all. held (policy_path ask.folder) all ≡ Some bytes) → length bytes ≤ most_bytes → ends_of_bytes season bytes ≡ None →
    IfSome files (λ all. judge_ends season ask all ≡ None)
held_passes files season ask bytes is short none = ended files (judge_ends season ask) (ends_of_bytes season bytes) None (held_ends files season ask bytes is short) none

pub if_it_reports : {T E : Type 0} (result : Result T E) (P Q : Type 0) → (P → Q) → OnOk result P → IfOk result (λ _. Q)
if_it_reports (Ok x) P Q next h = next h
if_it_reports (Err e) P Q next h = tt

-- it ends by what stands against the policy, or by the fault of its file
module _ (files : Option Files) (ends : Files → Option Cause) (taken old new : ℕ) where
  by_judgement : (given : Result ℤ Objection) (ending : Cause) → IfSome files (λ all. ends all ≡ ends_of_judgement given) → ends_of_judgement given ≡ Some ending → EndsBy files ends d.Policy taken old new ending
  by_judgement (Ok value) ending is e = cc
  by_judgement (Err (breaks_rule breach)) ending is e = let same : (PolicyRule breach.branch breach.rule) ≡ ending = cc in subst (EndsBy files ends d.Policy taken old new) same is
  by_judgement (Err no_base) ending is e = let same : Base ≡ ending = cc in subst (EndsBy files ends d.Policy taken old new) same is
  by_judgement (Err (too_large found)) ending is e = let same : (Size found) ≡ ending = cc in subst (EndsBy files ends d.Policy taken old new) same is

  by_reading : (season : Season) (given : Result Written Fault) (ending : Cause) → IfSome files (λ all. ends all ≡ ends_of_reading season given) → ends_of_reading season given ≡ Some ending → EndsBy files ends d.Policy taken old new ending
  by_reading season (Ok policy) ending is e = by_judgement (judgement floor season policy) ending is e
  by_reading season (Err no_json) ending is e = let same : PolicyJson ≡ ending = cc in subst (EndsBy files ends d.Policy taken old new) same is
  by_reading season (Err (no_shape branch)) ending is e = let same : (PolicyShape branch) ≡ ending = cc in subst (EndsBy files ends d.Policy taken old new) same is
  by_reading season (Err (no_store branch)) ending is e = let same : (PolicyUnknown branch) ≡ ending = cc in subst (EndsBy files ends d.Policy taken old new) same is

pub held_fails : (files : Option Files) (season : Season) (ask : Ask) (bytes : List ℕ) (taken old new : ℕ) (ending : Cause) → IfSome files (λ all. held (policy_path ask.folder) all ≡ Some bytes) → length bytes ≤ most_bytes →
    (ending ≡ Memory) ⊎ (ends_of_bytes season bytes ≡ Some ending) → EndsBy files (judge_ends season ask) d.Policy taken old new ending
held_fails files season ask bytes taken old new ending is short (inl memory) = rw memory tt
held_fails files season ask bytes taken old new ending is short (inr says) = by_reading files (judge_ends season ask) taken old new season (policy_of season bytes) ending (held_ends files season ask bytes is short) says
