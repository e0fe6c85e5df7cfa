-- What stands at the paths of its question's footprint decides a source.
use Rattle.std.specs.Prelude.{nat_eq, bytes_eq, codes, Contains, Some, Result, Ok}
use Rattle.std.specs.List.{ends_with}
use Rattle.std.proofs.Common.{◌≡◌, ◌-◌, ◌++◌, ◌∷◌, [], ℕ, List, length, take, drop, true, false}
use Rattle.std.proofs.Common.{refl, sym, ap, ◌∙◌, subst, inl, inr, append_assoc}
use Rattle.std.proofs.lemmas.Bool.{cond-true, cond-false, cases_Bool, true≢false}
use Rattle.std.proofs.lemmas.Bool.Decides.{Decides-eqb}
use Rattle.std.proofs.lemmas.List.Elements.{Contains-push}
use Rattle.std.proofs.lemmas.List.Prefix.{end_rest}
use Rattle.std.proofs.lemmas.Slice.Eq.{bytes_eq-Decides, ends_is}
use Rattle.asking_spec.specs.Askings.{answered, and_then, outcome}
use Rattle.asking_spec.proofs.AskingLemmas.{outcome_then, questions_then}
use Rattle.tree_spec.proofs.Contained.{footprint_contains}
use Rattle.tree_spec.proofs.Footprints.{same_by_footprint}
use Rattle.tree_spec.specs.FoldersAbove.{folder_of}
use Rattle.tree_spec.specs.LookAskings.{Sights, looks}
use Rattle.node_spec.specs.EsmFileFormat.{Format, IsModule, IsDetected, has_ending, file_format, format_in}
use Rattle.node_spec.specs.EsmFileFormat.{format_by_record, format_of_kind}
use Rattle.node_spec.specs.LookupPackageScope.{package_scope}
use Rattle.node_spec.specs.NodeAnswers.{Refusal}
use Rattle.node_spec.specs.ReadPackageJson.{record_at}
use Rattle.trace_spec.specs.Questions.{of_module, put, by_format}
use Rattle.trace_spec.specs.Laws.{source_footprint, HasNoType, in_no_package, in_package, SourcesAreDecided}

-- ---- the ending `.js` is no other one

module _ (path : List ℕ) where
  -- the last three characters
  abbrev last : List ℕ
  last = drop (length path - 3) path

  last_of : (front three : List ℕ) → length three ≡ 3 → path ≡ front ++ three → last ≡ three
  last_of front three size e = ap (λ n. drop (length path - n) path) (sym size) ∙ end_rest path three front e

  behind : (ending : List ℕ) → has_ending path ending ≡ true
      → path ≡ take (length path - length ending) path ++ ending
  behind ending e = (ends_is Decides-eqb path ending (ends_with nat_eq path ending) refl).0 e

  js_last : has_ending path (codes ".js") ≡ true → last ≡ codes ".js"
  js_last e = last_of (take (length path - 3) path) (codes ".js") refl (behind (codes ".js") e)

  other_ending : (middle three : List ℕ) → length three ≡ 3 → bytes_eq three (codes ".js") ≡ false
      → has_ending path (codes ".js") ≡ true → has_ending path (middle ++ three) ≡ false
  other_ending middle three size apart js =
      let front : List ℕ = take (length path - length (middle ++ three)) path in
      elim (cases_Bool (has_ending path (middle ++ three))) [
        | inl e ↦ absurd (true≢false (sym ((bytes_eq-Decides three (codes ".js")).1
            (sym (last_of (front ++ middle) three size
            (behind (middle ++ three) e ∙ sym (append_assoc front middle three))) ∙ js_last js)) ∙ apart))
        | inr e ↦ e
      ]

  js_format : has_ending path (codes ".js") ≡ true → file_format path ≡ and_then (package_scope (folder_of path)) format_in
  js_format js =
      let mjs : has_ending path (codes ".mjs") ≡ false = other_ending (codes ".") (codes "mjs") refl refl js in
      let cjs : has_ending path (codes ".cjs") ≡ false = other_ending (codes ".") (codes "cjs") refl refl js in
      let json : has_ending path (codes ".json") ≡ false = other_ending (codes ".j") (codes "son") refl refl js in
      let node : has_ending path (codes ".node") ≡ false = other_ending (codes ".n") (codes "ode") refl refl js in
      cond-false _ _ _ mjs
      ∙ (cond-false _ _ _ cjs ∙ (cond-false _ _ _ json ∙ (cond-false _ _ _ node ∙ cond-true _ _ _ js)))

-- ---- what the question looks at

module _ (sights : Sights) (path : List ℕ) where
  looks_are : looks sights (put (of_module path))
      ≡ looks sights (file_format path) ++ looks sights (by_format path (outcome sights (file_format path)))
  looks_are = questions_then sights (file_format path) (by_format path)

  -- the file is looked at last
  looked_at : (format : Result Format Refusal) → outcome sights (file_format path) ≡ format
      → looks sights (by_format path format) ≡ path ∷ [] → Contains (source_footprint sights path) path
  looked_at format is one =
      footprint_contains sights (put (of_module path)) path
      (subst (λ paths. Contains paths path)
      (sym (looks_are ∙ ap (λ paths. looks sights (file_format path) ++ paths)
      (ap (λ f. looks sights (by_format path f)) is ∙ one)))
      (Contains-push (looks sights (file_format path)) path))

  -- what the scope says of a `.js`
  scoped : has_ending path (codes ".js") ≡ true
      → outcome sights (file_format path) ≡ outcome sights (format_in (outcome sights (package_scope (folder_of path))))
  scoped js = ap (outcome sights) (js_format path js) ∙ outcome_then sights (package_scope (folder_of path)) format_in

  in_scope : (folder : List ℕ) → outcome sights (format_in (Some folder)) ≡ format_by_record (outcome sights (record_at folder))
  in_scope folder = outcome_then sights (record_at folder) (λ held. answered (format_by_record held))

  is_detected : has_ending path (codes ".js") ≡ true → HasNoType sights path
      → outcome sights (file_format path) ≡ Ok IsDetected
  is_detected js (in_no_package none) = scoped js ∙ ap (λ found. outcome sights (format_in found)) none
  is_detected js (in_package folder of_scope found read kind) =
      scoped js ∙ (ap (λ some. outcome sights (format_in some)) found
      ∙ (in_scope folder ∙ (ap format_by_record read ∙ ap (λ k. Ok (format_of_kind k)) kind)))

pub sources_are_decided : SourcesAreDecided
sources_are_decided sights path = record {
  same = λ other agrees. same_by_footprint sights other (put (of_module path)) agrees;
  of_module_format = λ is. looked_at sights path (Ok IsModule) is refl;
  of_no_type = λ js none. looked_at sights path (Ok IsDetected) (is_detected sights path js none) refl;
}
