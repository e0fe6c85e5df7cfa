-- The modules of a trace agree where the file of each module does that the page reaches.
use Rattle.std.proofs.Common.{◌≡◌, List, [], ◌∷◌, map, Some, sym, ap, ◌∙◌, subst, inl, inr}
use Rattle.std.specs.Prelude.{All, Contains}
use Rattle.std.specs.FinMap.{get}
use Rattle.std.proofs.lemmas.List.Elements.{All-nil, All-cons, All-head, All-tail}
use Rattle.tree_spec.proofs.OneLook.{same_stored}
use Rattle.tree_spec.specs.declared.Entry.TheVariants.{Stored}
use Rattle.tree_spec.specs.Trees.{Tree}
use Rattle.layout_spec.proofs.Contained.{contains_cases, contains_here, contains_none, contains_there}
use Rattle.grammar_spec.specs.declared.answer.Strict.TheVariants.{Agrees}
use Rattle.trace_spec.proofs.Sources.{sources_are_read}
use Rattle.trace_spec.proofs.Traces.{goes_in_order, is_what_is_reached}
use Rattle.trace_spec.specs.Modules.{Config, Module}
use Rattle.trace_spec.specs.Questions.{Source}
use Rattle.trace_spec.specs.Traces.{source}
use Rattle.trace_spec.specs.Walking.{a_module}
use Rattle.config_spec.specs.declared.Command.TheVariants.{CheckStrictly}
use Rattle.generator_spec.specs.Laws.{AgreesWhereReached}
use Rattle.generator_spec.specs.Serves.{Reachable}
use Rattle.generator_spec.specs.Strictness.{IsSaid, AgreesAt, ModulesAgree, ModulesAgree as agrees}
use Rattle.generator_spec.proofs.Reaching.{reachable, reached}
use Rattle.generator_spec.proofs.Strictnesses.{Agreeing, first_source}

module _ (tree : Tree) where
  stored_at : (m : Module) (own : Source) → source (get tree) m ≡ Some own → get tree m.path ≡ Some (Stored own.bytes)
  stored_at m own e = ((sources_are_read (get tree) m own).0 e).stored

  -- where each source agrees, so does the file of each module
  agreeing_at :
      (modules : List Module) (sources : List Source) → map Some sources ≡ map (source (get tree)) modules
      → All Agreeing sources → (m : Module) → Contains modules m → AgreesAt tree m
  agreeing_at [] sources same agree m c = absurd (contains_none m c)
  agreeing_at (first ∷ modules) [] same agree m c = absurd (cc)
  agreeing_at (first ∷ modules) (own ∷ sources) same agree m c =
      let parts = first_source (source (get tree) first) own (map (source (get tree)) modules) sources same in
      elim (contains_cases m first modules c) [
        | inl one ↦ record {
          bytes = own.bytes;
          stands = ap (λ (n : Module). get tree n.path) (sym one) ∙ stored_at first own parts.0;
          said = All-head Agreeing own sources agree;
        }
        | inr later ↦ agreeing_at modules sources parts.1 (All-tail Agreeing own sources agree) m later
      ]

  -- and the other way round
  all_agree_at :
      (modules : List Module) (sources : List Source) → map Some sources ≡ map (source (get tree)) modules
      → ((m : Module) → Contains modules m → AgreesAt tree m) → All Agreeing sources
  all_agree_at modules [] same each = All-nil Agreeing
  all_agree_at [] (own ∷ sources) same each = absurd (cc)
  all_agree_at (first ∷ modules) (own ∷ sources) same each =
      let parts = first_source (source (get tree) first) own (map (source (get tree)) modules) sources same in
      let at = each first (contains_here first modules) in
      let read : at.bytes ≡ own.bytes = same_stored at.stands (stored_at first own parts.0) in
      All-cons Agreeing own sources (subst (λ b. IsSaid b Agrees) read at.said)
      (all_agree_at modules sources parts.1 (λ m c. each m (contains_there m first modules c)))

  agree_where_reached : (config : Config) → ModulesAgree tree config CheckStrictly → (m : Module) → Reachable tree config (a_module m) → AgreesAt tree m
  agree_where_reached config (agrees.agreeing all e agree) m reach =
      agreeing_at all.modules all.sources (goes_in_order (get tree) config all e).sources agree m
      ((is_what_is_reached (get tree) config all e m).1 (reached tree config all e (a_module m) reach))

pub agrees_where_reached : AgreesWhereReached
agrees_where_reached tree config all e = (
  agree_where_reached tree config,
  (λ each.
      agrees.agreeing all e
      (all_agree_at tree all.modules all.sources (goes_in_order (get tree) config all e).sources
      (λ m c. each m (reachable tree config all e (a_module m) ((is_what_is_reached (get tree) config all e m).0 c))))),
)
