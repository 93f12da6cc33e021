use Rattle.std.proofs.Common.{◌≡◌, ◌∙◌, sym, List, [], ◌∷◌, ℕ, map, refl, ap, inl, inr, Bool, true, false, Option, Some, None}
use Rattle.std.specs.Prelude.{◌&&◌, ◌⊎◌, if◌then◌else◌, String, string_bytes, Err, IsUtf8}
use Rattle.std.specs.declared.alloc.Global.{Global}
use Rattle.std.specs.List.{list_all}
use Rattle.std.specs.Str.{is_utf8}
use Rattle.std.proofs.lemmas.Str.{IsUtf8-from_is_utf8, is_utf8-from_IsUtf8}
use Rattle.serde_json.specs.Data.{Data, Members}
use Rattle.serde_json.specs.Read.{read}
use Rattle.serde_json.specs.View.{members_view}
use Rattle.serde_json.specs.declared.value.Value.{Value}
use Rattle.clr_text.specs.declared.file.FileError.{FileError}
use Rattle.clr_text.specs.declared.file.FileError.TheVariants.{Memory, Refused}
use Rattle.clr_text.specs.declared.file.Why.TheVariants.{Field, Json}
use Rattle.clr_text.specs.Fields.{strip_bom}
use Rattle.clr_text.specs.Tables.{Gives}
use Rattle.clr_rules.specs.declared.limits.Limits.{Limits}
use Rattle.clr_rules.specs.Limits.{all_known, data_of, field, is_known, limits_in, limits_of, object_limits}

-- the names of an object's members are the keys of its map
pub known-keys : (entries : List (String Global × Value)) → all_known (members_view entries) ≡ list_all (λ k. is_known (string_bytes k)) (map (λ e. e.0) entries)
known-keys [] = refl
known-keys (e ∷ entries) = ap (λ (b : Bool). is_known (string_bytes e.0) && b) (known-keys entries)

pub object-known : (value : Data) (o : Option Members) (members : Members) → Some members ≡ o → all_known members ≡ true → object_limits value o ≡ limits_in value
object-known value o fields is known = rw (← is) (rw known refl)

pub object-field : (value : Data) (o : Option Members) (members : Members) → Some members ≡ o → all_known members ≡ false → object_limits value o ≡ Err (field 0 Field)
object-field value o fields is other = rw (← is) (rw other refl)

pub data-read : (bytes text : List ℕ) (d : Data) → text ≡ strip_bom bytes → IsUtf8 text → read text ≡ Some d → data_of bytes ≡ Some d
unfolding data_of
data-read bytes text d same utf8 is = rw (← same) (rw (is_utf8-from_IsUtf8 text utf8, is) refl)

pub data-unread : (bytes text : List ℕ) → text ≡ strip_bom bytes → (IsUtf8 text → read text ≡ None) → data_of bytes ≡ None
unfolding data_of
data-unread bytes text same none =
    let cases : (b : Bool) → is_utf8 text ≡ b → (if b then read text else None) ≡ None =
    elim [
      | true ↦ λ is. none (IsUtf8-from_is_utf8 text is)
      | false ↦ λ is. refl
    ] in
    rw (← same) (cases (is_utf8 text) refl)

-- an error is of memory, or the bytes are no JSON text
pub gives-unread : (bytes text : List ℕ) (e : FileError) (M : Type 0) → text ≡ strip_bom bytes → (¬ M → IsUtf8 text → read text ≡ None) → (M → e ≡ Memory) → (e ≡ Memory) ⊎ (e ≡ Refused 0 0 Json) → Gives {X = Limits} {Y = Limits} (λ l. l) (Err e) (limits_of bytes)
unfolding limits_of
gives-unread bytes text e M same none memory (inl is) = rw is tt
gives-unread bytes text e M same none memory (inr is) =
    let other : ¬ M = λ m. let bad : Refused 0 0 Json ≡ Memory = sym is ∙ memory m in cc bad in
    let unread = data-unread bytes text same (none other) in
    rw (is, unread) refl
