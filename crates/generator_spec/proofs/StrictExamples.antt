-- The worked examples, by computation.
use Rattle.std.proofs.Common.{[], ◌∷◌, refl}
use Rattle.std.specs.Fmt.{digits}
use Rattle.std.specs.Prelude.{ℕ, List}
use Rattle.grammar_spec.specs.declared.answer.Strict.TheVariants.{Agrees, TooDeep}
use Rattle.trace_spec.specs.Modules.{Module}
use Rattle.generator_spec.specs.Checking.{AreLined, AreLined as lined}
use Rattle.generator_spec.specs.WorkedExamples.{StrictExamples, asked}

none_nested : (first second : Module) (lines : List (List ℕ)) → AreLined (first ∷ second ∷ []) (Agrees ∷ TooDeep ∷ []) lines → ⊥
none_nested first second lines (lined.agrees more) = elim more [ ]

none_unsaid : (first : Module) (lines : List (List ℕ)) → AreLined (first ∷ []) [] lines → ⊥
none_unsaid first lines are = elim are [ ]

pub strict_examples : StrictExamples
unfolding digits
strict_examples = record {
  lined = lined.agrees (lined.syntax 22 (lined.differs [] (asked "./d.mjs" ∷ []) lined.none));
  requests_differ = lined.differs (asked "./d.mjs" ∷ []) [] lined.none;
  nested = none_nested _ _;
  unsaid = none_unsaid _;
  too_deep_status = refl;
  too_deep_line = refl;
  counted_status = refl;
  counted = refl;
  none_status = refl;
  none = refl;
}
