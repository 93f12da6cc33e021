-- The fields of an object.
use Rattle.std.proofs.Common.{◌≡◌, ◌∙◌, sym, List, [], ◌∷◌, ℕ, map, refl, ap, inl, inr, Bool, true, false, Some, None, Err, String, string_bytes}
use Rattle.std.specs.Prelude.{◌&&◌, ◌⊎◌, if◌then◌else◌, IsUtf8}
use Rattle.std.specs.Str.{is_utf8}
use Rattle.std.proofs.lemmas.Str.{IsUtf8-from_is_utf8, is_utf8-from_IsUtf8}
use Rattle.std.specs.declared.alloc.Global.{Global}
use Rattle.std.specs.List.{list_all}
use Rattle.serde_json.specs.Data.{Data}
use Rattle.serde_json.specs.Find.{as_object}
use Rattle.serde_json.specs.View.{members_view}
use Rattle.serde_json.specs.declared.value.Value.{Value}
use Rattle.serde_json.specs.Read.{read}
use Rattle.clr_text.specs.Fields.{strip_bom}
use Rattle.clr_season.specs.Season.{Season}
use Rattle.clr_policy.specs.declared.policy.Policy.{Policy}
use Rattle.clr_policy.specs.declared.policy.PolicyError.{PolicyError}
use Rattle.clr_policy.specs.declared.policy.PolicyError.TheVariants.{Json, Memory}
use Rattle.clr_policy.specs.Written.{written}
use Rattle.clr_policy.specs.PolicyFile.{Gives, all_pass, data_of, has_only, policy_of}

-- ---- what the bytes are

pub data-read : (bytes text : List ℕ) (d : Data) → text ≡ strip_bom bytes → IsUtf8 text → read text ≡ Some d → data_of bytes ≡ Some d
unfolding data_of
data-read bytes text d same utf8 is = rw (← same) (rw (is_utf8-from_IsUtf8 text utf8, is) refl)

pub data-unread : (bytes text : List ℕ) → text ≡ strip_bom bytes → (IsUtf8 text → read text ≡ None) → data_of bytes ≡ None
unfolding data_of
data-unread bytes text same none =
    let cases : (b : Bool) → is_utf8 text ≡ b → (if b then read text else None) ≡ None =
    elim [
      | true ↦ λ is. none (IsUtf8-from_is_utf8 text is)
      | false ↦ λ is. refl
    ] in
    rw (← same) (cases (is_utf8 text) refl)

-- an error is of memory, or the bytes are no JSON text
pub gives-unread : (season : Season) (bytes text : List ℕ) (error : PolicyError) (M : Type 0) → text ≡ strip_bom bytes → (¬ M → IsUtf8 text → read text ≡ None) → (M → error ≡ Memory) → (error ≡ Memory) ⊎ (error ≡ Json) →
    Gives {X = Policy} written (Err error) (policy_of season bytes)
unfolding policy_of
gives-unread season bytes text error M same none memory (inl is) = rw is tt
gives-unread season bytes text error M same none memory (inr is) =
    let other : ¬ M = λ m. let bad : Json ≡ Memory = sym is ∙ memory m in cc bad in
    let unread = data-unread bytes text same (none other) in
    rw (is, unread) refl

-- ---- the names of fields

-- the names of an object's members are the keys of its map
all_keys : (passes : List ℕ → Bool) (entries : List (String Global × Value)) → list_all (λ k. passes (string_bytes k)) (map (λ e. e.0) entries) ≡ all_pass passes (members_view entries)
all_keys passes [] = refl
all_keys passes (e ∷ entries) = ap (λ b. passes (string_bytes e.0) && b) (all_keys passes entries)

pub keys_pass : (passes : List ℕ → Bool) (node : Data) (entries : List (String Global × Value)) → Some (members_view entries) ≡ as_object node →
    list_all (λ k. passes (string_bytes k)) (map (λ e. e.0) entries) ≡ has_only passes node
unfolding has_only
keys_pass passes node entries is = rw (← is) (all_keys passes entries)
