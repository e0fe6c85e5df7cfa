-- Names that commas part.
--     IsName text      the text may stand between commas
--     joined names     the names with a comma between each two
use Rattle.std.specs.List.{join_by}
use Rattle.std.specs.Prelude.{◌≢◌, ℕ, List, [], ◌∷◌, All}

-- own: a name isn't empty and has no comma
pub record IsName (text : List ℕ) : Type 0 where
  pub nonempty : text ≢ []
  pub no_comma : All (λ b. b ≢ 44) text

abbrev pub joined : List (List ℕ) → List ℕ
joined names = join_by (λ name. name) (44 ∷ []) names
