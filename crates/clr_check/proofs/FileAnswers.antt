-- What the answers of the checking say of the file.
use Rattle.std.proofs.Common.{◌≡◌, ◌↔◌, ℕ, Bool, true, false, List, [], ◌++◌, refl, ap, sym, ◌∙◌, subst}
use Rattle.std.specs.Prelude.{Option, Some, None, IfSome, IsErrOf, IfOk, IsOk, IsSomeAnd, Ok, Err, Result}
use Rattle.clr_io.specs.Files.{Files, Opens, held}
use Rattle.clr_io.specs.declared.fault.Failed.{Failed}
use Rattle.clr_cert.specs.Accepts.{Accepts, cert_claims, first_no}
use Rattle.clr_cert.specs.declared.no.No.{No}
use Rattle.clr_season.specs.Season.{Season}
use Rattle.clr_check.specs.FileChecks.{IsFedFile, IsFedWhole, IsProved}
use Rattle.clr_check.specs.Laws.{AcceptedOrRefused, ClaimsHold}
use Rattle.clr_check.specs.Standing.{IsClaimOf, Kept, Stands, ended_text}
use Rattle.clr_cert.specs.declared.claims.Claims.{Claims}
use Rattle.clr_check.specs.declared.file.CheckError.{CheckError}
use Rattle.clr_check.specs.declared.rest.Rest.{Rest}
use Rattle.clr_check.specs.declared.file.CheckError.TheVariants as c

held_all : (P : List ℕ → Type 0) (given rest : Option (List ℕ)) → IsSomeAnd given (λ bytes. rest ≡ Some bytes) → IfSome rest P → IsSomeAnd given P
held_all P None rest opened all = absurd opened
held_all P (Some bytes) None opened all = cc opened
held_all P (Some bytes) (Some behind) opened all = let e : behind ≡ bytes = cc opened in subst P e all

-- what holds of the bytes left of a file that was opened holds of its bytes
pub opened_all : (P : List ℕ → Type 0) (files : Option Files) (name : List ℕ) (rest : Option (List ℕ)) → Opens {E = Failed} files name (Ok true) rest → IfSome rest P → IfSome files (λ all. IsSomeAnd (held name all) P)
opened_all P None name rest opened all = tt
opened_all P (Some files) name rest opened all = held_all P (held name files) rest opened all

held_is : (bytes : List ℕ) (given : Option (List ℕ)) → IsSomeAnd given (λ b. b ≡ bytes) → given ≡ Some bytes
held_is bytes None h = absurd h
held_is bytes (Some b) h = ap (λ (l : List ℕ). Some l) h

-- these are the bytes of the file, where it is told
pub opened_is : (bytes : List ℕ) (files : Option Files) (name : List ℕ) (rest : Option (List ℕ)) → Opens {E = Failed} files name (Ok true) rest → IfSome rest (λ behind. [] ++ behind ≡ bytes) → IfSome files (λ all. held name all ≡ Some bytes)
opened_is bytes None name rest opened all = tt
opened_is bytes (Some files) name rest opened all = held_is bytes (held name files) (held_all (λ b. b ≡ bytes) (held name files) rest opened all)

-- all bytes to come of a file that was opened are its bytes
pub fed_file : (result : Result Rest CheckError) (files : Option Files) (name : List ℕ) (rest : Option (List ℕ)) (found : Bool) (given : List ℕ) (before after : Kept) → Opens {E = Failed} files name (Ok found) rest → found ≡ true → given ≡ [] →
    IfOk result (λ kind. (season : Season) (fed : List (List ℕ)) → Stands season fed before → IsFedWhole season fed given rest after kind) → IfOk result (λ kind. (season : Season) → Stands season [] before → IsFedFile season files name after kind)
fed_file (Ok kind) files name rest found given before after opens is_found none fed = λ season stands.
    let opened : Opens {E = Failed} files name (Ok true) rest = subst (λ (b : Bool). Opens {E = Failed} files name (Ok b) rest) is_found opens in
    let whole : IsFedWhole season [] [] rest after kind = subst (λ (l : List ℕ). IsFedWhole season [] l rest after kind) none (fed season [] stands) in
    record { more = whole.more; last = whole.last; stands = whole.stands; line = whole.line; ends = whole.ends; is = opened_is (ended_text whole.more ++ whole.last) files name rest opened whole.is }
fed_file (Err error) files name rest found given before after opens is_found none fed = tt

held_of : (P : List ℕ → Type 0) (bytes : List ℕ) (given : Option (List ℕ)) → given ≡ Some bytes → P bytes → IsSomeAnd given P
held_of P bytes given is p = rw is p

-- what holds of these bytes holds of the file
pub of_file : (P : List ℕ → Type 0) (bytes : List ℕ) (files : Option Files) (name : List ℕ) → IfSome files (λ all. held name all ≡ Some bytes) → P bytes → IfSome files (λ all. IsSomeAnd (held name all) P)
of_file P bytes None name is p = tt
of_file P bytes (Some files) name is p = held_of P bytes (held name files) is p

-- ---- a verdict

pub proved : (season : Season) (bytes : List ℕ) (claims : Claims) → ((b : List ℕ) → Accepts season b → ClaimsHold season b (cert_claims season b)) → IsClaimOf season bytes claims → IsProved season bytes claims
proved season bytes claims hold claim = record {
  claimed = claim;
  holds = rw claim.same (hold bytes claim.accepted);
}

pub ok_accepted : (season : Season) (bytes : List ℕ) (claims : Claims) → IsClaimOf season bytes claims → IsOk {T = Claims} {E = CheckError} (Ok claims) ↔ Accepts season bytes
ok_accepted season bytes claims claim = (λ is. claim.accepted, λ accepts. refl)

pub ok_refused : (season : Season) (bytes : List ℕ) (claims : Claims) → AcceptedOrRefused → IsClaimOf season bytes claims → (refusal : No) → IsErrOf {T = Claims} {E = CheckError} (Ok claims) (c.No refusal) ↔ (first_no season bytes ≡ Some refusal)
ok_refused season bytes claims law claim refusal =
    let none : first_no season bytes ≡ None = (law season bytes).1 claim.accepted in
    (λ is. cc is, λ some. let e : ◌≡◌ {A = Option No} None (Some refusal) = sym none ∙ some in cc e)

pub no_accepted : (season : Season) (bytes : List ℕ) (refusal : No) → AcceptedOrRefused → first_no season bytes ≡ Some refusal → IsOk {T = Claims} {E = CheckError} (Err (c.No refusal)) ↔ Accepts season bytes
no_accepted season bytes refusal law first =
    (λ is. cc is, λ accepts. let e : ◌≡◌ {A = Option No} None (Some refusal) = sym ((law season bytes).1 accepts) ∙ first in cc e)

pub no_refused : (season : Season) (bytes : List ℕ) (refusal : No) → first_no season bytes ≡ Some refusal → (other : No) → IsErrOf {T = Claims} {E = CheckError} (Err (c.No refusal)) (c.No other) ↔ (first_no season bytes ≡ Some other)
no_refused season bytes refusal first other =
    (λ is. let e : refusal ≡ other = cc is in first ∙ ap (λ (n : No). Some n) e, λ some. let e : refusal ≡ other = let o : Some refusal ≡ Some other = sym first ∙ some in cc o in ap (λ (n : No). Err (c.No n)) e)

-- ---- no file

pub absent_is : (files : Option Files) (name : List ℕ) (rest : Option (List ℕ)) → Opens {E = Failed} files name (Ok false) rest → IfSome files (λ all. held name all ≡ None)
absent_is None name rest opened = tt
absent_is (Some files) name rest opened = opened.0
