-- The first file that is there, among the files that texts name in a folder.
--     texts_of ends                the texts of a slice
--     shown_if url served          the URL, where it is served
--     served_at url                the URL, where a file stands there
--     first_served folder texts    the URL of the first text's file that is there
use Rattle.std.specs.Prelude.{◌++◌, ℕ, Bool, List, [], ◌∷◌, codes, map, Option, Some, None, if◌then◌else◌}
use Rattle.asking_spec.specs.Askings.{answered, and_then}
use Rattle.tree_spec.specs.LookAskings.{LookAsking}
use Rattle.node_spec.specs.FileLooks.{look_at_url, url_in}
use Rattle.node_spec.specs.LegacyMainResolve.{serves}
use Rattle.node_spec.specs.NodeAnswers.{Url}
use denote.Ref.{Bor}

abbrev pub texts_of : List (Bor (List ℕ)) → List (List ℕ)
texts_of ends = map (λ (end : Bor (List ℕ)). end.now) ends

abbrev pub shown_if : Url → Bool → LookAsking (Option Url)
shown_if url served = answered (if served then Some url else None)

abbrev pub served_at : Option Url → LookAsking (Option Url)
served_at None = answered None
served_at (Some url) = and_then (and_then (look_at_url url) (λ found. answered (serves url found))) (shown_if url)

abbrev pub served_or : LookAsking (Option Url) → Option Url → LookAsking (Option Url)
served_or rest None = rest
served_or rest (Some url) = answered (Some url)

abbrev pub first_served : List ℕ → List (List ℕ) → LookAsking (Option Url)
first_served folder [] = answered None
first_served folder (text ∷ more) =
    and_then (served_at (url_in folder (codes "./" ++ text))) (served_or (first_served folder more))
