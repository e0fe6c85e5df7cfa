-- Worked examples of targets. The text `x` is answered by InvalidTarget, `s` by Stop, any other by Found.
--     StringExamples, NestedExamples      strings, and objects and lists
use Rattle.std.specs.Prelude.{false, [], ◌∷◌, codes, None, true, ℕ, List, Some}
use Rattle.json_spec.specs.Value.{Json, a_list, no_items, an_item, an_object, no_members, a_member, a_text, a_null}
use Rattle.json_spec.specs.Value.{a_bool}
use Rattle.node_spec.specs.PackageTargets.{Rules, ResolvesTarget}
use Rattle.node_spec.specs.declared.BareAnswer.TheVariants as bare_answer
use Rattle.node_spec.specs.declared.Outcome.{Outcome}
use Rattle.node_spec.specs.declared.Outcome.TheVariants.{Place, Bare, InvalidTarget, InvalidSpecifier, Undefined, Null}
use Rattle.node_spec.specs.declared.Outcome.TheVariants.{Stopped, InvalidConfig}

-- in `exports`, in `imports`, and in `exports` with a text for `*`; the one condition is `import`
abbrev exporting : Rules
exporting = record { conditions = codes "import" ∷ []; pattern_match = None; is_imports = false }

abbrev importing : Rules
importing = record { conditions = codes "import" ∷ []; pattern_match = None; is_imports = true }

abbrev matching : List ℕ → Rules
matching text = record { conditions = codes "import" ∷ []; pattern_match = Some text; is_imports = false }

abbrev importing_with : List ℕ → Rules
importing_with text = record { conditions = codes "import" ∷ []; pattern_match = Some text; is_imports = true }

abbrev two : Json → Json → Json
two first second = a_list (an_item first (an_item second no_items))

abbrev of_two : List ℕ → Json → List ℕ → Json → Json
of_two key value other second = an_object (a_member key value (a_member other second no_members))

abbrev of_one : List ℕ → Json → Json
of_one key value = an_object (a_member key value no_members)

abbrev silently : Rules → Json → Outcome → Type 0
silently rules target out = ResolvesTarget rules target [] out

pub record StringExamples : Type 0 where
  pub place : silently exporting (a_text (codes "./a.mjs")) (Place (codes "./a.mjs"))
  pub star : silently (matching (codes "b")) (a_text (codes "./a*")) (Place (codes "./ab"))
  pub stars : silently (matching (codes "b/c")) (a_text (codes "./*/*.mjs")) (Place (codes "./b/c/b/c.mjs"))
  pub star_kept : silently exporting (a_text (codes "./a*")) (Place (codes "./a*"))
  pub above : silently exporting (a_text (codes "./../x")) InvalidTarget
  pub escaped : silently exporting (a_text (codes "./a/%2E%2e/x")) InvalidTarget
  pub modules : silently exporting (a_text (codes "./a\\Node_%4dodules\\x")) InvalidTarget
  pub no_name : silently exporting (a_text (codes "./")) InvalidTarget
  pub tab : silently exporting (a_text (46 ∷ 47 ∷ 46 ∷ 9 ∷ codes "./q.mjs")) InvalidTarget
  pub match_above : silently (matching (codes "../b")) (a_text (codes "./*")) InvalidSpecifier
  pub match_empty : silently (matching []) (a_text (codes "./a")) InvalidSpecifier
  pub both_invalid : silently (matching (codes "..")) (a_text (codes "./../*")) InvalidTarget
  pub bare_export : silently exporting (a_text (codes "a")) InvalidTarget
  pub bare_import : ResolvesTarget importing (a_text (codes "a")) ((codes "a", bare_answer.Found) ∷ []) Bare
  pub bare_star :
      ResolvesTarget (importing_with (codes "../q")) (a_text (codes "a/*"))
      ((codes "a/../q", bare_answer.Found) ∷ []) Bare
  pub url_import : silently importing (a_text (codes "node:fs")) InvalidTarget
  pub above_import : silently importing (a_text (codes "../a")) InvalidTarget

pub record NestedExamples : Type 0 where
  pub null_ends : silently exporting (of_two (codes "import") a_null (codes "default") (a_text (codes "./d"))) Null
  pub no_condition : silently exporting (of_one (codes "node") (a_text (codes "./n"))) Undefined
  pub falls_through :
      silently exporting
      (of_two (codes "import") (of_one (codes "node") (a_text (codes "./n"))) (codes "default") (a_text (codes "./d")))
      (Place (codes "./d"))
  pub first_default :
      silently exporting (of_two (codes "default") (a_text (codes "./d")) (codes "import") (a_text (codes "./i")))
      (Place (codes "./d"))
  pub zero_key : silently exporting (of_one (codes "0") (a_text (codes "./x"))) InvalidConfig
  pub greatest_index :
      silently exporting (of_two (codes "import") (a_text (codes "./x")) (codes "4294967294") a_null) InvalidConfig
  pub past_indices : silently exporting (of_one (codes "4294967295") (a_text (codes "./x"))) Undefined
  pub leading_zero : silently exporting (of_one (codes "00") (a_text (codes "./x"))) Undefined
  pub empty_list : silently exporting (a_list no_items) Null
  pub a_bool : silently exporting (a_bool true) InvalidTarget
  pub passes_invalid :
      ResolvesTarget importing (two (a_text (codes "x")) (a_text (codes "./f")))
      ((codes "x", bare_answer.InvalidTarget) ∷ []) (Place (codes "./f"))
  pub stops :
      ResolvesTarget importing (two (a_text (codes "s")) (a_text (codes "./f")))
      ((codes "s", bare_answer.Stop) ∷ []) Stopped
  pub last_invalid :
      ResolvesTarget importing (two a_null (a_text (codes "x")))
      ((codes "x", bare_answer.InvalidTarget) ∷ []) InvalidTarget
  pub last_null : silently exporting (two (a_text (codes "x")) a_null) Null
  pub null_kept : silently exporting (two a_null (of_one (codes "node") (a_text (codes "./n")))) Null
  pub asked_twice :
      ResolvesTarget importing (two (a_text (codes "x")) (a_text (codes "x")))
      ((codes "x", bare_answer.InvalidTarget) ∷ (codes "x", bare_answer.InvalidTarget) ∷ []) InvalidTarget

abbrev pub TargetExamples : Type 0
TargetExamples = StringExamples × NestedExamples
