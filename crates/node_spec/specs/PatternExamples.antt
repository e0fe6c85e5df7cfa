-- Worked examples of keys that are chosen.
--     three_keys           patterns that match texts below `./a/`
--     PatternExamples      the key that is taken, and how it matches; and where none does
use Rattle.std.specs.Prelude.{ℕ, List, [], ◌∷◌, codes}
use Rattle.node_spec.specs.PatternKeys.{Itself, PatternMatch, IsChoice, MatchesNone}

abbrev pub three_keys : List (List ℕ)
three_keys = codes "./a/*" ∷ codes "./a/b*" ∷ codes "./a/*.js" ∷ []

pub record PatternExamples : Type 0 where
  pub longest_base : IsChoice three_keys (codes "./a/bc.js") (codes "./a/b*") (PatternMatch 5 9)
  pub longest_key : IsChoice three_keys (codes "./a/x.js") (codes "./a/*.js") (PatternMatch 4 5)
  pub key_itself : IsChoice (codes "./*" ∷ codes "./x" ∷ []) (codes "./x") (codes "./x") Itself
  pub base_alone : MatchesNone (codes "./a/*" ∷ []) (codes "./a/")
  pub two_stars : MatchesNone (codes "./a/*/b/*" ∷ []) (codes "./a/1/b/2")
