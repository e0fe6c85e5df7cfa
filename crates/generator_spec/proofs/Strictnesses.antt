-- Of a trace's modules one thing is said beside the map, and there is such a thing.
use Rattle.std.proofs.Common.{◌≡◌, ◌⊎◌, ◌&&◌, ◌==◌, ◌++◌, ℕ, Bool, false, bytes_eq, List, [], ◌∷◌, map, Option, Some, Result, Ok, refl, sym, ap, ◌∙◌, subst, inl, inr, true≢false, arith}
use Rattle.std.specs.Prelude.{All}
use Rattle.std.specs.FinMap.{get}
use Rattle.std.specs.Bool.{Decides}
use Rattle.std.specs.Cmp.Lexicographic.{pointwise, pointwise_decides}
use Rattle.std.specs.List.{list_any}
use Rattle.std.proofs.lemmas.Bool.{cases_Bool}
use Rattle.std.proofs.lemmas.Bool.Decides.{Decides-like, Decides-and, Decides-eqb}
use Rattle.std.proofs.lemmas.Slice.Eq.{bytes_eq-Decides}
use Rattle.std.proofs.lemmas.List.Elements.{All-nil, All-cons, All-head, All-tail}
use Rattle.tree_spec.specs.LookAskings.{Sights}
use Rattle.tree_spec.specs.Trees.{Tree}
use Rattle.check_spec.specs.Differences.{Difference, differences}
use Rattle.module_spec.specs.declared.request.Request.{Request}
use Rattle.module_spec.specs.declared.request.ModuleFault.{ModuleFault}
use Rattle.module_spec.proofs.OutlineLaws.{one_outline}
use Rattle.module_spec.specs.Outlines.{Outline, ReadsOutline, ReadsOutline as outlines}
use Rattle.grammar_spec.proofs.VerdictLaws.{one_verdict, some_verdict}
use Rattle.grammar_spec.specs.declared.answer.Strict.{Strict}
use Rattle.grammar_spec.specs.declared.answer.Strict.TheVariants.{Agrees, Syntax, Differs, TooDeep}
use Rattle.grammar_spec.specs.Verdicts.{Verdict, matches, syntax_at, nested_too_deep, ReadsGrammar, IsStrict, IsStrict as stricts}
use Rattle.trace_spec.proofs.Sources.{sources_are_read}
use Rattle.trace_spec.proofs.Traces.{goes_in_order}
use Rattle.trace_spec.specs.Checks.{Gathered}
use Rattle.trace_spec.specs.Modules.{Config, Module}
use Rattle.trace_spec.specs.Questions.{Source}
use Rattle.trace_spec.specs.Traces.{source, traced}
use Rattle.config_spec.specs.declared.Command.{Command}
use Rattle.config_spec.specs.declared.Command.TheVariants.{CheckStrictly}
use Rattle.generator_spec.specs.Commands.{IsChecking, IsChecking as checking, IsGenerating}
use Rattle.generator_spec.specs.Checking.{difference_line, SaysOfModules, SaysOfModules as says, AreLined, AreLined as lined, check_status}
use Rattle.generator_spec.specs.Laws.{ChecksAreExact}
use Rattle.generator_spec.specs.Lines.{strict_syntax_line, strict_requests_line}
use Rattle.generator_spec.specs.Strictness.{IsSaid, AreSaid, AreSaid as said, is_nested, IsNested, ModulesAgree, ModulesAgree as agrees}
use Rattle.generator_spec.proofs.Generations.{same_trace}

-- ---- commands

pub checking_or_generating : (command : Command) → IsChecking command → IsGenerating command → ⊥
checking_or_generating command checking.plainly generating = generating
checking_or_generating command checking.strictly generating = generating

pub says_checking : (all : Gathered) (command : Command) (strict : List (List ℕ)) → SaysOfModules all command strict → IsChecking command
says_checking all command strict says.unasked = checking.plainly
says_checking all command strict (says.strictly answers lines are lines_are) = checking.strictly

-- ---- one at most

one_strict : (outline : Outline) (verdict : Verdict) (some other : Strict) → IsStrict outline verdict some → IsStrict outline verdict other → some ≡ other
one_strict outline verdict some other (stricts.agrees e) (stricts.agrees f) = refl
one_strict outline verdict some other (stricts.agrees e) (stricts.differs f) = absurd (f e)
one_strict outline verdict some other (stricts.differs e) (stricts.agrees f) = absurd (e f)
one_strict outline verdict some other (stricts.differs e) (stricts.differs f) = refl
one_strict outline verdict some other stricts.refused stricts.refused = refl
one_strict outline verdict some other stricts.deep stricts.deep = refl

abbrev as_outlined : Outline → Result Outline ModuleFault
as_outlined outline = Ok outline

pub one_said : (text : List ℕ) (some other : Strict) → IsSaid text some → IsSaid text other → some ≡ other
one_said text some other is too =
    let read : as_outlined is.outline ≡ as_outlined too.outline = one_outline text (Ok is.outline) (Ok too.outline) is.is_outline too.is_outline in
    let outlines_same : is.outline ≡ too.outline = cc in
    let verdicts = one_verdict text is.verdict too.verdict is.reads too.reads in
    one_strict is.outline is.verdict some other is.is
    (subst (λ o. IsStrict o is.verdict other) (sym outlines_same) (subst (λ v. IsStrict too.outline v other) (sym verdicts) too.is))

pub one_answers : (sources : List Source) (some other : List Strict) → AreSaid sources some → AreSaid sources other → some ≡ other
one_answers [] some other said.none said.none = refl
one_answers (first ∷ sources) [] other are more = elim are [ ]
one_answers (first ∷ sources) (some ∷ rest) [] are more = elim more [ ]
one_answers (first ∷ sources) (some ∷ rest) (other ∷ others) (said.one_more is are) (said.one_more too more) =
    let firsts = one_said first.bytes some other is too in
    let rests = one_answers sources rest others are more in
    (λ i. firsts i ∷ rests i)

one_lines : (modules : List Module) (answers : List Strict) (some other : List (List ℕ)) → AreLined modules answers some → AreLined modules answers other → some ≡ other
one_lines modules answers some other lined.none lined.none = refl
one_lines _ _ _ _ (lined.agrees {m} {modules} {answers} {lines} are) (lined.agrees {lines = others} more) =
    one_lines modules answers lines others are more
one_lines _ _ _ _ (lined.syntax {m} {modules} {answers} {lines} at are) (lined.syntax {lines = others} _ more) =
    ap (λ ls. strict_syntax_line (m.path ++ m.suffix) at ∷ ls) (one_lines modules answers lines others are more)
one_lines _ _ _ _ (lined.differs {m} {modules} {answers} {lines} found outline are) (lined.differs {lines = others} _ _ more) =
    ap (λ ls. strict_requests_line (m.path ++ m.suffix) ∷ ls) (one_lines modules answers lines others are more)

pub one_saying : (all : Gathered) (command : Command) (some other : List (List ℕ)) → SaysOfModules all command some → SaysOfModules all command other → some ≡ other
one_saying all command some other says.unasked says.unasked = refl
one_saying all command some other (says.strictly answers lines are lines_are) (says.strictly answers_too others are_too others_are) =
    let same = one_answers all.sources answers answers_too are are_too in
    one_lines all.modules answers lines others lines_are (subst (λ a. AreLined all.modules a others) (sym same) others_are)

-- what has lines isn't nested too deep
pub none_nested : (modules : List Module) (answers : List Strict) (lines : List (List ℕ)) → AreLined modules answers lines → IsNested answers → ⊥
none_nested modules answers lines lined.none deep = true≢false (sym deep)
none_nested _ _ _ (lined.agrees {m} {modules} {answers} {lines} are) deep = none_nested modules answers lines are deep
none_nested _ _ _ (lined.syntax {m} {modules} {answers} {lines} at are) deep = none_nested modules answers lines are deep
none_nested _ _ _ (lined.differs {m} {modules} {answers} {lines} found outline are) deep = none_nested modules answers lines are deep

-- ---- some

both_same : (a b : Request) → (a.from ≡ b.from) × ((a.to ≡ b.to) × (a.text ≡ b.text)) → a ≡ b
both_same a b e = rw (e.0, e.1.0, e.1.1) refl

abbrev same_request : Request → Request → Bool
same_request a b = (a.from == b.from) && ((a.to == b.to) && bytes_eq a.text b.text)

request_decides : (a b : Request) → Decides (same_request a b) (a ≡ b)
request_decides a b =
    Decides-like _ (both_same a b)
    (λ e. (ap (λ (r : Request). r.from) e, (ap (λ (r : Request). r.to) e, ap (λ (r : Request). r.text) e)))
    (Decides-and _ _ (Decides-eqb a.from b.from)
    (Decides-and _ _ (Decides-eqb a.to b.to) (bytes_eq-Decides a.text b.text)))

some_strict : (outline : Outline) (verdict : Verdict) → (answer : Strict) × IsStrict outline verdict answer
some_strict outline (syntax_at at) = (Syntax at, stricts.refused)
some_strict outline nested_too_deep = (TooDeep, stricts.deep)
some_strict outline (matches asked) =
    let decides = pointwise_decides request_decides asked outline.requests in
    elim (cases_Bool (pointwise same_request asked outline.requests)) [
      | inl same ↦ (Agrees, stricts.agrees (decides.0 same))
      | inr other ↦ (Differs asked outline.requests, stricts.differs (λ e. true≢false (sym (decides.1 e) ∙ other)))
    ]

verdict_there : (text : List ℕ) (outline : Outline) (out : Result Outline ModuleFault) → ReadsOutline text out → out ≡ Ok outline → (verdict : Verdict) × ReadsGrammar text verdict
verdict_there text outline out (outlines.all {before} {rest} reached ended e) is = some_verdict text before rest reached ended
verdict_there text outline out (outlines.fault reached ended e) is = absurd (let bad = sym e ∙ is in cc)

some_said : (text : List ℕ) (outline : Outline) → ReadsOutline text (Ok outline) → (answer : Strict) × IsSaid text answer
some_said text outline reads =
    let verdict = verdict_there text outline (Ok outline) reads refl in
    let answer = some_strict outline verdict.0 in
    (answer.0, record { outline = outline; is_outline = reads; verdict = verdict.0; reads = verdict.1; is = answer.1 })

pub first_source : (first : Option Source) (own : Source) (firsts : List (Option Source)) (sources : List Source) → map Some (own ∷ sources) ≡ first ∷ firsts → (first ≡ Some own) × (map Some sources ≡ firsts)
first_source first own firsts sources e = (cc, cc)

answers_of : (sights : Sights) (modules : List Module) (sources : List Source) → map Some sources ≡ map (source sights) modules → (answers : List Strict) × AreSaid sources answers
answers_of sights [] [] same = ([], said.none)
answers_of sights [] (own ∷ sources) same = absurd (cc)
answers_of sights (m ∷ modules) [] same = absurd (cc)
answers_of sights (m ∷ modules) (own ∷ sources) same =
    let parts = first_source (source sights m) own (map (source sights) modules) sources same in
    let has = (sources_are_read sights m own).0 parts.0 in
    let first = some_said own.bytes has.outline has.reads in
    let more = answers_of sights modules sources parts.1 in
    (first.0 ∷ more.0, said.one_more first.1 more.1)

-- where there is a trace, something is said of its modules
pub some_answers : (sights : Sights) (config : Config) (all : Gathered) → traced sights config ≡ Ok all → (answers : List Strict) × AreSaid all.sources answers
some_answers sights config all e = answers_of sights all.modules all.sources (goes_in_order sights config all e).sources

lines_of :
    (sights : Sights) (modules : List Module) (sources : List Source) (answers : List Strict)
    → map Some sources ≡ map (source sights) modules → AreSaid sources answers → list_any is_nested answers ≡ false
    → (lines : List (List ℕ)) × AreLined modules answers lines
lines_of sights [] [] [] same said.none shallow = ([], lined.none)
lines_of sights modules [] (answer ∷ answers) same are shallow = elim are [ ]
lines_of sights modules (own ∷ sources) [] same are shallow = elim are [ ]
lines_of sights (m ∷ modules) [] answers same are shallow = absurd (cc)
lines_of sights [] (own ∷ sources) (answer ∷ answers) same are shallow = absurd (cc)
lines_of sights (m ∷ modules) (own ∷ sources) (answer ∷ answers) same (said.one_more is are) shallow =
    let parts = first_source (source sights m) own (map (source sights) modules) sources same in
    by answer shallow (λ none. lines_of sights modules sources answers parts.1 are none)
  where
    by :
        (found : Strict) → list_any is_nested (found ∷ answers) ≡ false
        → (list_any is_nested answers ≡ false → (lines : List (List ℕ)) × AreLined modules answers lines)
        → (lines : List (List ℕ)) × AreLined (m ∷ modules) (found ∷ answers) lines
    by Agrees none more = let rest = more none in (rest.0, lined.agrees rest.1)
    by (Syntax at) none more = let rest = more none in (strict_syntax_line (m.path ++ m.suffix) at ∷ rest.0, lined.syntax at rest.1)
    by (Differs found outline) none more =
        let rest = more none in
        (strict_requests_line (m.path ++ m.suffix) ∷ rest.0, lined.differs found outline rest.1)
    by TooDeep none more = absurd (true≢false none)

-- where there is a trace, something is said of its modules, or one of them is nested too deep
pub some_saying :
    (sights : Sights) (config : Config) (all : Gathered) → traced sights config ≡ Ok all
    → ((strict : List (List ℕ)) × SaysOfModules all CheckStrictly strict)
    ⊎ ((answers : List Strict) × AreSaid all.sources answers × IsNested answers)
some_saying sights config all e =
    let found = some_answers sights config all e in
    elim (cases_Bool (list_any is_nested found.0)) [
      | inl deep ↦ inr (found.0, found.1, deep)
      | inr shallow ↦
          let lines = lines_of sights all.modules all.sources found.0 (goes_in_order sights config all e).sources found.1 shallow in
          inl (lines.0, says.strictly found.0 lines.0 found.1 lines.1)
    ]

-- ---- a check that is done

abbrev pub Agreeing : Source → Type 0
Agreeing own = IsSaid own.bytes Agrees

-- where no module has a line, each agrees
all_agree : (modules : List Module) (sources : List Source) (answers : List Strict) (lines : List (List ℕ)) → AreSaid sources answers → AreLined modules answers lines → lines ≡ [] → All Agreeing sources
all_agree modules sources answers lines said.none are none = All-nil Agreeing
all_agree _ _ _ lines (said.one_more {source = own} {sources} {answers = answers} is are) (lined.agrees {m} {modules} more) none =
    All-cons Agreeing own sources is (all_agree modules sources answers lines are more none)
all_agree _ _ _ lines (said.one_more is are) (lined.syntax at more) none = absurd (cc)
all_agree _ _ _ lines (said.one_more is are) (lined.differs found outline more) none = absurd (cc)

-- and where each agrees, none has a line
no_strict_lines : (modules : List Module) (sources : List Source) (answers : List Strict) (lines : List (List ℕ)) → AreSaid sources answers → AreLined modules answers lines → All Agreeing sources → lines ≡ []
no_strict_lines modules sources answers lines said.none lined.none agree = refl
no_strict_lines _ _ _ lines (said.one_more {source = own} {sources} {answers = answers} is are) (lined.agrees {m} {modules} more) agree =
    no_strict_lines modules sources answers lines are more (All-tail Agreeing own sources agree)
no_strict_lines _ _ _ lines (said.one_more {source = own} {sources} is are) (lined.syntax at more) agree =
    let bad : Syntax at ≡ Agrees = one_said own.bytes (Syntax at) Agrees is (All-head Agreeing own sources agree) in
    absurd (cc)
no_strict_lines _ _ _ lines (said.one_more {source = own} {sources} is are) (lined.differs found outline more) agree =
    let bad : Differs found outline ≡ Agrees = one_said own.bytes (Differs found outline) Agrees is (All-head Agreeing own sources agree) in
    absurd (cc)

module _ (tree : Tree) (config : Config) (all : Gathered) (e : traced (get tree) config ≡ Ok all) where
  agree_without_lines : (command : Command) (strict : List (List ℕ)) → SaysOfModules all command strict → strict ≡ [] → ModulesAgree tree config command
  agree_without_lines command strict says.unasked none = agrees.unasked
  agree_without_lines command strict (says.strictly answers lines are lines_are) none =
      agrees.agreeing all e (all_agree all.modules all.sources answers lines are lines_are none)

  no_lines_where_agree : (command : Command) (strict : List (List ℕ)) → SaysOfModules all command strict → ModulesAgree tree config command → strict ≡ []
  no_lines_where_agree command strict says.unasked agree = refl
  no_lines_where_agree command strict (says.strictly answers lines are lines_are) (agrees.agreeing found traces agree) =
      let same = same_trace (traced (get tree) config) found all traces e in
      no_strict_lines all.modules all.sources answers lines are lines_are (subst (λ (g : Gathered). All Agreeing g.sources) same agree)

done_before : (all : Gathered) (ds : List Difference) (strict : List (List ℕ)) → check_status (map (difference_line all) ds ++ strict) ≡ 0 → (ds ≡ []) × (check_status strict ≡ 0)
done_before all [] strict zero = (refl, zero)
done_before all (d ∷ more) strict zero = absurd (omega (arith, zero))

nothing_said : (strict : List (List ℕ)) → check_status strict ≡ 0 → strict ≡ []
nothing_said [] zero = refl
nothing_said (line ∷ more) zero = absurd (omega (arith, zero))

pub checks_are_exact : ChecksAreExact
checks_are_exact tree config command held all strict e says_so = (
  (λ zero.
      let before = done_before all (differences held all.needs) strict zero in
      (before.0, agree_without_lines tree config all e command strict says_so (nothing_said strict before.1))),
  (λ both.
      let none = no_lines_where_agree tree config all e command strict says_so both.1 in
      (λ i. check_status (map (difference_line all) (both.0 i) ++ none i))),
)
