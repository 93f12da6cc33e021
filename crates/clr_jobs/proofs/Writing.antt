-- What is written, and what stands after a fault of an output.
use Rattle.std.proofs.Common.{◌≡◌, inl, inr, List, ℕ, [], ◌∷◌, true, false, refl, sym, ap, subst, ◌∙◌, append-nil, append_assoc, Some, None, Option}
use Rattle.std.specs.Prelude.{◌⊎◌, IfOk, IfSome, IsErrOf, OnErr, Result, Ok, Err}
use Rattle.clr_io.specs.Files.{Files}
use Rattle.clr_cert.specs.Writing.{with_file}
use Rattle.clr_cert.specs.Writing.{AddsFront as AddsFileFront}
use Rattle.clr_words.specs.declared.asked.Job.TheVariants as j
use Rattle.clr_report.specs.declared.note.Cause.TheVariants.{Memory, WriteFault}
use Rattle.clr_report.specs.declared.note.Doc.{Doc}
use Rattle.clr_report.specs.declared.note.Doc.TheVariants as d
use Rattle.clr_report.specs.declared.note.Cause.{Cause}
use Rattle.clr_jobs.specs.Outputs.{Fails, LeavesFiles, Outputs, with_files}
use Rattle.clr_jobs.specs.Plans.{cert_files, no_name}
use Rattle.clr_jobs.specs.Runs.{Caused, Writes, docs_asked, docs_by, ending_asked}

-- no files more
pub with_none : (made : Option Files) → made ≡ with_files made []
with_none None = refl
with_none (Some files) = ap Some (sym (append-nil files))

-- ---- the certificate

module _ (cert text : List ℕ) (before now : Option Files) where
  -- none is asked
  pub no-cert : no_name cert ≡ true → before ≡ with_files before (cert_files cert text)
  no-cert none = rw none (with_none before)

  -- one is asked
  pub cert-made : no_name cert ≡ false → now ≡ with_file before cert text → now ≡ with_files before (cert_files cert text)
  cert-made named made = rw named made

  pub cert-leaves : no_name cert ≡ false → AddsFileFront before now cert text → LeavesFiles (docs_by j.Plan cert) (cert_files cert text) before now d.Certificate
  cert-leaves named front = rw named (inl (refl, front))

pub cert-docs : (cert : List ℕ) → no_name cert ≡ false → docs_by j.Plan cert ≡ d.Certificate ∷ []
cert-docs cert named = rw named refl

-- ---- files in their order

-- one of them, and then the others
pub made-next : (before mid now : Option Files) (name bytes : List ℕ) (files : Files) → mid ≡ with_file before name bytes → now ≡ with_files mid files → now ≡ with_files before ((name, bytes) ∷ files)
made-next before mid now name bytes files is then = then ∙ (ap (λ made. with_files made files) is ∙ joined before)
  where
    joined : (made : Option Files) → with_files (with_file made name bytes) files ≡ with_files made ((name, bytes) ∷ files)
    joined None = refl
    joined (Some held) = ap Some (append_assoc held ((name, bytes) ∷ []) files)

-- the document at which the desk failed, and what holds then
pub same-document : {X : Type 0} (failed doc : Doc) → IsErrOf {T = X} {E = Doc} (Err failed) doc → failed ≡ doc
same-document failed doc is = cc

pub failed-so : {X : Type 0} {P : Type 0} (result : Result X Doc) (doc : Doc) → IsErrOf result doc → OnErr result P → P
failed-so (Ok x) doc is fact = cc
failed-so (Err failed) doc is fact = fact

-- a fault of the first, or of one behind it
pub leaves-first : (named doc : Doc) (docs : List Doc) (before now : Option Files) (name bytes : List ℕ) (files : Files) → doc ≡ named → AddsFileFront before now name bytes → LeavesFiles (named ∷ docs) ((name, bytes) ∷ files) before now doc
leaves-first named doc docs before now name bytes files is front = inl (is, front)

pub leaves-next : (named doc : Doc) (docs : List Doc) (before mid now : Option Files) (name bytes : List ℕ) (files : Files) → mid ≡ with_file before name bytes → LeavesFiles docs files mid now doc → LeavesFiles (named ∷ docs) ((name, bytes) ∷ files) before now doc
leaves-next named doc docs before mid now name bytes files is leaves = inr (subst (λ made. LeavesFiles docs files made now doc) is leaves)

-- ---- all outputs

-- what holds of the outputs that stand ready holds of what a whole run writes
pub written : (files : Option Files) (words : List (List ℕ)) (ready : Outputs) (Holds : Outputs → Type 0) → Writes files words (λ outputs. outputs ≡ ready) → Holds ready → Writes files words Holds
written files words ready Holds (ask, outputs, asked, facts, gives, is) holds = (ask, outputs, asked, facts, gives, subst Holds (sym is) holds)

-- why outputs that stand ready are not written
pub writing-caused :
    (files : Option Files) (words : List (List ℕ)) (taken : ℕ) (ShelfRose DeskRose OutRose : Type 0) (docs : List Doc) (ending : Cause) → docs ≡ docs_asked words → IfSome files (λ held. ending_asked held words ≡ None) →
    (ending ≡ Memory) ⊎ ((doc : Doc) × (ending ≡ WriteFault doc)) → ((doc : Doc) → ending ≡ WriteFault doc → Fails docs DeskRose OutRose doc) → Caused files words taken ShelfRose DeskRose OutRose ending
writing-caused files words taken ShelfRose DeskRose OutRose docs ending same passes (inl memory) failed = inl (inl memory)
writing-caused files words taken ShelfRose DeskRose OutRose docs ending same passes (inr (doc, by)) failed = inr (doc, by, subst (λ named. Fails named DeskRose OutRose doc) same (failed doc by), passes)

-- and where no output failed, what holds after want of memory
pub writing-memory : (ending : Cause) (Holds : Type 0) → (ending ≡ Memory) ⊎ ((doc : Doc) × (ending ≡ WriteFault doc)) → ((doc : Doc) → ending ≡ WriteFault doc → ⊥) → (ending ≡ Memory → Holds) → Holds
writing-memory ending Holds (inl memory) unfailed holds = holds memory
writing-memory ending Holds (inr (doc, by)) unfailed holds = absurd (unfailed doc by)

-- what follows of each value that is given
pub if-ok : {T E : Type 0} (result : Result T E) (P Q : T → Type 0) → ((x : T) → P x → Q x) → IfOk result P → IfOk result Q
if-ok (Ok x) P Q next is = next x is
if-ok (Err error) P Q next is = tt
