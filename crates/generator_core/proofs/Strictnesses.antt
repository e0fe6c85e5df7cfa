-- How a check comes to the lines of the modules, step by step.
use Rattle.std.proofs.Common.{◌≡◌, ◌≢◌, ◌≤◌, ◌+◌, ◌||◌, ◌++◌, ℕ, zero, suc, Bool, true, false, List, [], ◌∷◌, length, take, Some, Result, Ok, Err, refl, sym, ap, ◌∙◌, subst, append_assoc, true≢false, arith}
use Rattle.std.specs.List.{list_any}
use Rattle.std.specs.Prelude.{slice_get, OnOk}
use Rattle.std.proofs.Math.Seq.{take-length}
use Rattle.std.proofs.lemmas.List.{append-nil}
use Rattle.grammar_spec.specs.declared.answer.Strict.{Strict}
use Rattle.module_spec.proofs.OutlineLaws.{one_outline}
use Rattle.module_spec.specs.declared.request.ModuleFault.TheVariants as module_fault
use Rattle.module_spec.specs.Outlines.{Outline, ReadsOutline}
use Rattle.es_module_parser.specs.declared.fault.OutlineFault.{OutlineFault}
use Rattle.es_module_parser.specs.declared.fault.OutlineFault.TheVariants as fault
use Rattle.es_module_parser.specs.Faults.{IsFaultOf}
use Rattle.es_grammar.specs.Saying.{SaysOf}
use Rattle.module_sources.specs.Shown.{IsRead}
use Rattle.grammar_spec.specs.declared.answer.Strict.TheVariants.{Agrees, Syntax, Differs, TooDeep}
use Rattle.trace_spec.specs.Checks.{Gathered}
use Rattle.trace_spec.specs.Modules.{Module}
use Rattle.trace_spec.specs.Questions.{Source}
use Rattle.generator_spec.proofs.Strictnesses.{one_said}
use Rattle.generator_spec.specs.Checking.{AreLined, AreLined as lined}
use Rattle.generator_spec.specs.Strictness.{IsSaid, AreSaid, AreSaid as said, is_nested, IsNested}
use Rattle.generator_spec.specs.declared.Refusal.TheVariants.{NestedTooDeep}
use Rattle.generation.specs.declared.stop.Stop.TheVariants.{Refused, Memory}
use Rattle.generation.specs.declared.stop.Stop.{Stop}
use Rattle.generator_core.specs.Strictness.{FindsAnswer, IsSaidAt, IsLineOf, IsModuleLined, IsStrictStop as strict_stop, PushesModule, StandBehind, own_lines}

-- ---- a module that is nested too deep

or_true : (b : Bool) → (b || true) ≡ true
or_true true = refl
or_true false = refl

-- where it stands among the others, some module is
pub nested_somewhere :
    (sources : List Source) (answers : List Strict) (place : ℕ) (source : Source) → AreSaid sources answers
    → slice_get sources place ≡ Some source → IsSaid source.bytes TooDeep → IsNested answers
nested_somewhere [] answers place source are there deep = absurd (cc)
nested_somewhere (first ∷ sources) [] place source are there deep = elim are [ ]
nested_somewhere (first ∷ sources) (answer ∷ answers) zero source (said.one_more is are) there deep =
    let same : first ≡ source = cc in
    let deep_there : answer ≡ TooDeep = one_said source.bytes answer TooDeep (subst (λ (s : Source). IsSaid s.bytes answer) same is) deep in
    ap (λ a. is_nested a || list_any is_nested answers) deep_there
nested_somewhere (first ∷ sources) (answer ∷ answers) (suc place) source (said.one_more is are) there deep =
    ap (λ b. is_nested answer || b) (nested_somewhere sources answers place source are there deep) ∙ or_true (is_nested answer)

-- ---- one module more

take_more : {A : Type 0} (xs : List A) (i : ℕ) (x : A) → slice_get xs i ≡ Some x → take (suc i) xs ≡ take i xs ++ x ∷ []
take_more [] i x there = absurd (cc)
take_more (first ∷ xs) zero x there = let same : first ≡ x = cc in ap (λ y. y ∷ []) same
take_more (first ∷ xs) (suc i) x there = ap (λ rest. first ∷ rest) (take_more xs i x there)

said_more : (sources : List Source) (answers : List Strict) (source : Source) (answer : Strict) → AreSaid sources answers → IsSaid source.bytes answer → AreSaid (sources ++ source ∷ []) (answers ++ answer ∷ [])
said_more [] [] source answer said.none is = said.one_more is said.none
said_more [] (some ∷ answers) source answer are is = elim are [ ]
said_more (first ∷ sources) [] source answer are is = elim are [ ]
said_more (first ∷ sources) (some ∷ answers) source answer (said.one_more here are) is = said.one_more here (said_more sources answers source answer are is)

one_lined : (m : Module) (answer : Strict) → is_nested answer ≡ false → AreLined (m ∷ []) (answer ∷ []) (own_lines (m.path ++ m.suffix) answer)
one_lined m Agrees shallow = lined.agrees lined.none
one_lined m (Syntax at) shallow = lined.syntax at lined.none
one_lined m (Differs found outline) shallow = lined.differs found outline lined.none
one_lined m TooDeep shallow = absurd (true≢false shallow)

lined_more :
    (modules : List Module) (answers : List Strict) (lines : List (List ℕ)) (m : Module) (answer : Strict)
    → is_nested answer ≡ false → AreLined modules answers lines
    → AreLined (modules ++ m ∷ []) (answers ++ answer ∷ []) (lines ++ own_lines (m.path ++ m.suffix) answer)
lined_more modules answers lines m answer shallow lined.none = one_lined m answer shallow
lined_more _ _ _ m answer shallow (lined.agrees {modules = modules} {answers} {lines} are) =
    lined.agrees (lined_more modules answers lines m answer shallow are)
lined_more _ _ _ m answer shallow (lined.syntax {modules = modules} {answers} {lines} at are) =
    lined.syntax at (lined_more modules answers lines m answer shallow are)
lined_more _ _ _ m answer shallow (lined.differs {modules = modules} {answers} {lines} found outline are) =
    lined.differs found outline (lined_more modules answers lines m answer shallow are)

-- what is there behind the first modules
pub record AreLinedUpTo (all : Gathered) (place : ℕ) (old new : List (List ℕ)) : Type 0 where
  pub answers : List Strict
  pub said : AreSaid (take place all.sources) answers
  pub lines : List (List ℕ)
  pub lined : AreLined (take place all.modules) answers lines
  pub is : new ≡ old ++ lines

pub no_modules : (all : Gathered) (old : List (List ℕ)) → AreLinedUpTo all 0 old old
no_modules all old = record { answers = []; said = said.none; lines = []; lined = lined.none; is = sym (append-nil old) }

some_at : {A : Type 0} (xs : List A) (place : ℕ) → suc place ≤ length xs → (x : A) × (slice_get xs place ≡ Some x)
some_at [] place below = absurd (omega (arith, below))
some_at (x ∷ xs) zero below = (x, refl)
some_at (x ∷ xs) (suc place) below = some_at xs place (omega (arith, below))

pub next_answer :
    (all : Gathered) (place : ℕ) (old middle new : List (List ℕ)) (answer : Strict) → length all.modules ≡ length all.sources
    → suc place ≤ length all.modules → AreLinedUpTo all place old middle → IsSaidAt all place answer
    → is_nested answer ≡ false → IsLineOf all place answer middle new → AreLinedUpTo all (suc place) old new
next_answer all place old middle new answer same below up is shallow line =
    let m = some_at all.modules place below in
    let source = some_at all.sources place (omega (arith, same, below)) in
    let modules = take_more all.modules place m.0 m.1 in
    let sources = take_more all.sources place source.0 source.1 in
    let own : List (List ℕ) = own_lines (m.0.path ++ m.0.suffix) answer in
    record {
      answers = up.answers ++ answer ∷ [];
      said = subst (λ ss. AreSaid ss (up.answers ++ answer ∷ [])) (sym sources) (said_more (take place all.sources) up.answers source.0 answer up.said (is source.0 source.1));
      lines = up.lines ++ own;
      lined = subst (λ ms. AreLined ms (up.answers ++ answer ∷ []) (up.lines ++ own)) (sym modules) (lined_more (take place all.modules) up.answers up.lines m.0 answer shallow up.lined);
      is = line m.0 m.1 ∙ (ap (λ text. text ++ own) up.is ∙ append_assoc old up.lines own);
    }

pub next_module :
    (all : Gathered) (place : ℕ) (old middle new : List (List ℕ)) (result : Result (Unit {0}) Stop)
    → length all.modules ≡ length all.sources → suc place ≤ length all.modules → AreLinedUpTo all place old middle
    → PushesModule all place middle new result → result ≡ Ok tt → AreLinedUpTo all (place + 1) old new
next_module all place old middle new result same below up pushes is =
    let pushed : IsModuleLined all place middle new = subst (λ r. OnOk r (IsModuleLined all place middle new)) is pushes.pushed in
    let next : suc place ≡ place + 1 = omega arith in
    subst (λ n. AreLinedUpTo all n old new) next (next_answer all place old middle new pushed.answer same below up pushed.said pushed.shallow pushed.line)

pub all_lined : (all : Gathered) (place : ℕ) (old new : List (List ℕ)) → length all.modules ≡ length all.sources → place ≡ length all.modules → AreLinedUpTo all place old new → StandBehind all old new
all_lined all place old new same at up =
    let modules : take place all.modules ≡ all.modules = ap (λ n. take n all.modules) at ∙ take-length all.modules in
    let sources : take place all.sources ≡ all.sources = ap (λ n. take n all.sources) (at ∙ same) ∙ take-length all.sources in
    record {
      answers = up.answers;
      said = subst (λ ss. AreSaid ss up.answers) sources up.said;
      lines = up.lines;
      lined = subst (λ ms. AreLined ms up.answers up.lines) modules up.lined;
      is = up.is;
    }

-- ---- what is said of one module

-- the code's answer says what the definition does
pub said_so : (text : List ℕ) (outline : Outline) (answer : Strict) → ReadsOutline text (Ok outline) → SaysOf text outline answer → IsSaid text answer
said_so text outline answer reads says = record { outline = outline; is_outline = reads; verdict = says.verdict; reads = says.reads; is = says.is }

-- a text that has an outline has no fault
pub no_outline_fault : (text : List ℕ) (why : OutlineFault) → IsRead text → IsFaultOf text why → why ≢ fault.Memory → ⊥
no_outline_fault text (fault.Unreadable at) read is other =
    let same = one_outline text (Ok read.outline) (Err (module_fault.Unreadable at)) read.reads is in absurd (cc)
no_outline_fault text fault.TooDeep read is other =
    let same = one_outline text (Ok read.outline) (Err module_fault.TooDeep) read.reads is in absurd (cc)
no_outline_fault text fault.TooManyRequests read is other =
    let same = one_outline text (Ok read.outline) (Err module_fault.TooManyRequests) read.reads is in absurd (cc)
no_outline_fault text fault.Memory read is other = other refl

pub not_nested : (answer : Strict) → answer ≢ TooDeep → is_nested answer ≡ false
not_nested Agrees other = refl
not_nested (Syntax at) other = refl
not_nested (Differs found outline) other = refl
not_nested TooDeep other = absurd (other refl)

pub memory_found : (all : Gathered) (place : ℕ) → FindsAnswer all place (Err Memory)
memory_found all place = record { said = tt; shallow = tt; stopped = strict_stop.memory }

pub deep_found : (all : Gathered) (place : ℕ) → suc place ≤ length all.sources → IsSaidAt all place TooDeep → FindsAnswer all place (Err (Refused NestedTooDeep))
deep_found all place below is =
    let source = some_at all.sources place below in
    record { said = tt; shallow = tt; stopped = strict_stop.nested place source.0 source.1 (is source.0 source.1) }

pub answer_found : (all : Gathered) (place : ℕ) (answer : Strict) → IsSaidAt all place answer → answer ≢ TooDeep → FindsAnswer all place (Ok answer)
answer_found all place answer is other = record { said = is; shallow = not_nested answer other; stopped = tt }
