-- Looks that are those that are laid, but at some paths.
--     AgreeBut changed laid over      at each path but these there is the same
--     next_over spare pending         the looks for the next edit
--     is_changed pending              a map is pending
use Rattle.std.specs.Prelude.{◌≡◌, ℕ, List, Bool, Option, Some, None, true, false, bytes_eq}
use Rattle.std.specs.List.{list_any}
use Rattle.package_lookup.specs.declared.over.Over.{Over}
use Rattle.package_lookup.specs.Looked.{over_at}
use Rattle.edit_session.specs.declared.session.Prepared.{Prepared}
use Rattle.edit_session.specs.declared.session.Prepared.TheVariants.{Same, Changed}

abbrev pub AgreeBut : List (List ℕ) → Over → Over → Type 0
AgreeBut changed laid over =
    (path : List ℕ) → list_any (bytes_eq path) changed ≡ false → over_at over path ≡ over_at laid path

-- own: the spare ones, unless what is pending has them
abbrev pub next_over : Over → Option Prepared → Over
next_over spare None = spare
next_over spare (Some Same) = spare
next_over spare (Some (Changed pending)) = pending.over

abbrev pub is_changed : Option Prepared → Bool
is_changed None = false
is_changed (Some Same) = false
is_changed (Some (Changed pending)) = true
