-- Whether a text is one of some names.
--     among_none, among_first, among_later      name after name
use Rattle.std.proofs.Common.{◌≡◌, ℕ, List, ◌∷◌, Bool, true, false, length, sym, ap, ◌∙◌}
use Rattle.std.proofs.lemmas.List.{nil_from_length}
use Rattle.std.specs.Prelude.{bytes_eq, ◌||◌}
use Rattle.std.specs.List.{list_any}
use Rattle.node_resolve.specs.MainFiles.{texts_of}
use denote.Ref.{Bor}

pub among_none : (text : List ℕ) (names : List (Bor (List ℕ))) → length names ≡ 0
    → false ≡ list_any (bytes_eq text) (texts_of names)
among_none text names e = sym (ap (λ n. list_any (bytes_eq text) (texts_of n)) (nil_from_length names e))

pub among_first : (text : List ℕ) (name : Bor (List ℕ)) (more names : List (Bor (List ℕ))) (b : Bool)
    → names ≡ name ∷ more → b ≡ bytes_eq text name.now → b ≡ true → true ≡ list_any (bytes_eq text) (texts_of names)
among_first text name more names b e is hit =
    ap (λ t. t || list_any (bytes_eq text) (texts_of more)) (sym hit ∙ is)
    ∙ ap (λ n. list_any (bytes_eq text) (texts_of n)) (sym e)

pub among_later : (text : List ℕ) (name : Bor (List ℕ)) (more names : List (Bor (List ℕ))) (b rest : Bool)
    → names ≡ name ∷ more → b ≡ bytes_eq text name.now → b ≡ false → rest ≡ list_any (bytes_eq text) (texts_of more)
    → rest ≡ list_any (bytes_eq text) (texts_of names)
among_later text name more names b rest e is miss later =
    later ∙ (ap (λ t. t || list_any (bytes_eq text) (texts_of more)) (sym miss ∙ is)
    ∙ ap (λ n. list_any (bytes_eq text) (texts_of n)) (sym e))

pub ruleset among = (among_none, among_first, among_later)
