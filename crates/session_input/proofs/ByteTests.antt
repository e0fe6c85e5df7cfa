-- Bytes that are an entry, and bytes that are a path.
use Rattle.std.proofs.Common.{◌≡◌, ◌∷◌, [], ◌==◌, ℕ, List, length, Bool, true, false, refl, sym, ap, ◌∙◌, subst}
use Rattle.std.proofs.lemmas.Str.{IsUtf8-from_is_utf8, is_utf8-from_IsUtf8}
use Rattle.std.specs.Prelude.{◌&&◌}
use Rattle.std.specs.Str.{is_utf8, IsUtf8}
use Rattle.tree_spec.specs.Paths.{IsPath}
use Rattle.url_spec.specs.PathTests.{is_path}
use Rattle.url_spec.proofs.PathDecisions.{path_by_test, test_by_path}
use Rattle.session_input.specs.Lines.{is_entry}

not_true : (b : Bool) → (b ≡ true → ⊥) → b ≡ false
not_true true none = absurd (none refl)
not_true false none = refl

pub no_entry_bytes : (bytes : List ℕ) → (IsUtf8 bytes → ⊥) → is_entry bytes ≡ false
no_entry_bytes [] none = refl
no_entry_bytes (b ∷ bytes) none = not_true (is_utf8 (b ∷ bytes)) (λ is. none (IsUtf8-from_is_utf8 (b ∷ bytes) is))

pub entry_bytes : (bytes : List ℕ) → (length bytes == 0) ≡ false → IsUtf8 bytes → is_entry bytes ≡ true
entry_bytes [] some is = absurd (let bad : true ≡ false = some in cc)
entry_bytes (b ∷ bytes) some is = is_utf8-from_IsUtf8 (b ∷ bytes) is

neither_left : (a b : Bool) → a ≡ false → (a && b) ≡ false
neither_left a b e = ap (λ (t : Bool). t && b) e

neither_right : (a b : Bool) → b ≡ false → (a && b) ≡ false
neither_right true b e = e
neither_right false b e = refl

pub no_text_path : (bytes : List ℕ) → (IsUtf8 bytes → ⊥) → (is_utf8 bytes && is_path bytes) ≡ false
no_text_path bytes none = neither_left (is_utf8 bytes) (is_path bytes) (not_true (is_utf8 bytes) (λ is. none (IsUtf8-from_is_utf8 bytes is)))

pub no_path_bytes : (bytes text : List ℕ) → text ≡ bytes → (IsPath text → ⊥) → (is_utf8 bytes && is_path bytes) ≡ false
no_path_bytes bytes text same none =
    neither_right (is_utf8 bytes) (is_path bytes) (not_true (is_path bytes) (λ is. none (subst IsPath (sym same) (path_by_test bytes is))))

pub path_bytes : (bytes text : List ℕ) → text ≡ bytes → IsUtf8 bytes → IsPath text → (is_utf8 bytes && is_path bytes) ≡ true
path_bytes bytes text same utf8 is =
    ap (λ (t : Bool). t && is_path bytes) (is_utf8-from_IsUtf8 bytes utf8) ∙ test_by_path bytes (subst IsPath same is)
