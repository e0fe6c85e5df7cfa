-- One text is generated where there is a trace whose map isn't too large, and none elsewhere.
use Rattle.std.proofs.Common.{◌≡◌, ◌≤◌, ◌<◌, ◌⊎◌, ℕ, List, length, Ok, Err, refl, sym, ap, ◌∙◌, subst, inl, inr, arith}
use Rattle.std.proofs.lemmas.Bool.{cases_lt}
use Rattle.std.specs.Prelude.{Result}
use Rattle.std.specs.FinMap.{get}
use Rattle.tree_spec.specs.declared.LimitName.TheVariants.{Map}
use Rattle.tree_spec.specs.Limits.{limit_number}
use Rattle.tree_spec.specs.Trees.{Tree}
use Rattle.import_map_spec.specs.ParsedMap.{ParsedMap}
use Rattle.layout_spec.specs.PrintedMap.{map_text}
use Rattle.fewest_spec.proofs.Laws.{one_fewest_layout}
use Rattle.fewest_spec.proofs.SomeLayout.{some_fewest_layout}
use Rattle.fewest_spec.specs.Fewest.{IsFewestLayout}
use Rattle.fewest_spec.specs.Wishes.{HasTooManyChoices}
use Rattle.trace_spec.proofs.Traces.{needs_are_requests}
use Rattle.trace_spec.specs.declared.TraceFault.{TraceFault}
use Rattle.trace_spec.specs.Modules.{Config}
use Rattle.trace_spec.specs.Checks.{Gathered}
use Rattle.trace_spec.specs.Traces.{traced}
use Rattle.generator_spec.specs.Digests.{with_digests}
use Rattle.generator_spec.specs.Generation.{Generates, IsTooWide, IsTooLarge, map_base}
use Rattle.generator_spec.proofs.Choices.{many_or_few}
use Rattle.generator_spec.specs.Laws.{IsTextOf, OneGeneration, SomeGeneration, NothingRefused}

pub same_trace : (found : Result Gathered TraceFault) (all other : Gathered) → found ≡ Ok all → found ≡ Ok other → all ≡ other
same_trace found all other e f = cc

-- two generations of equal configs have one trace
pub one_trace :
    (tree : Tree) (config second : Config) (bytes others : List ℕ) → config ≡ second
    → (a : Generates tree config bytes) → (b : Generates tree second others) → a.all ≡ b.all
one_trace tree config second bytes others same a b =
    same_trace (traced (get tree) config) a.all b.all a.is_traced (ap (traced (get tree)) same ∙ b.is_traced)

-- equal needs have one layout with the fewest mappings
fewest_layout : (all other : Gathered) (m n : ParsedMap) → all ≡ other → IsFewestLayout all.needs m → IsFewestLayout other.needs n → m ≡ n
fewest_layout all other m n same a b =
    one_fewest_layout all.needs m n a (subst (λ (g : Gathered). IsFewestLayout g.needs n) (sym same) b)

-- and one layout
pub one_layout :
    (tree : Tree) (config second : Config) (bytes others : List ℕ) → config ≡ second
    → (a : Generates tree config bytes) → (b : Generates tree second others) → a.layout ≡ b.layout
one_layout tree config second bytes others same a b =
    fewest_layout a.all b.all a.layout b.layout (one_trace tree config second bytes others same a b) a.is_fewest b.is_fewest

-- and one text
pub one_text :
    (tree : Tree) (config second : Config) (bytes others : List ℕ) → config ≡ second
    → Generates tree config bytes → Generates tree second others → bytes ≡ others
one_text tree config second bytes others same a b =
    let traces = one_trace tree config second bytes others same a b in
    let layouts = one_layout tree config second bytes others same a b in
    a.text ∙ ((λ i. map_text (map_base (same i)) (with_digests (same i) (traces i) (layouts i))) ∙ sym b.text)

pub one_generation : OneGeneration
one_generation tree config some other a b = one_text tree config config some other refl a b

module _ (tree : Tree) (config : Config) (all : Gathered) (traces : traced (get tree) config ≡ Ok all) (few : HasTooManyChoices all.needs → ⊥) (layout : ParsedMap) (is_fewest : IsFewestLayout all.needs layout) where
  abbrev text : List ℕ
  text = map_text (map_base config) (with_digests config all layout)

  generated : length text ≤ limit_number Map → Generates tree config text
  generated small = record { all = all; is_traced = traces; few = few; layout = layout; is_fewest = is_fewest; text = refl; within = small }

  too_large : limit_number Map < length text → IsTooLarge tree config
  too_large large = record { all = all; is_traced = traces; few = few; layout = layout; is_fewest = is_fewest; large = large }

  generated_or_too_large : Generates tree config text ⊎ IsTooWide tree config ⊎ IsTooLarge tree config
  generated_or_too_large =
      elim (cases_lt (limit_number Map) (length text)) [
        | inl large ↦ inr (inr (too_large large))
        | inr small ↦ inl (generated small)
      ]

pub some_generation : SomeGeneration
some_generation tree config all traces =
    let found = some_fewest_layout all.needs (needs_are_requests (get tree) config all traces).no_clash in
    let text = map_text (map_base config) (with_digests config all found.0) in
    let is_text : IsTextOf config all text = record { layout = found.0; is_fewest = found.1; text = refl } in (
      text,
      is_text,
      elim (many_or_few all.needs) [
        | inl many ↦ inr (inl (record { all = all; is_traced = traces; many = many }))
        | inr few ↦ generated_or_too_large tree config all traces few found.0 found.1
      ],
    )

module _ (tree : Tree) (config : Config) (bytes : List ℕ) (generates : Generates tree config bytes) where
  no_refusal : (fault : TraceFault) → traced (get tree) config ≡ Err fault → ⊥
  no_refusal fault refused =
      let traces : traced (get tree) config ≡ Ok generates.all = generates.is_traced in
      let e : Ok generates.all ≡ Err fault = sym traces ∙ refused in
      absurd (cc)

  not_too_wide : IsTooWide tree config → ⊥
  not_too_wide is =
      let traces = same_trace (traced (get tree) config) is.all generates.all is.is_traced generates.is_traced in
      generates.few (subst (λ (g : Gathered). HasTooManyChoices g.needs) traces is.many)

  not_too_large : IsTooLarge tree config → ⊥
  not_too_large is =
      let traces = same_trace (traced (get tree) config) generates.all is.all generates.is_traced is.is_traced in
      let layouts = fewest_layout generates.all is.all generates.layout is.layout traces generates.is_fewest is.is_fewest in
      let same : map_text (map_base config) (with_digests config generates.all generates.layout) ≡ map_text (map_base config) (with_digests config is.all is.layout)
      = λ i. map_text (map_base config) (with_digests config (traces i) (layouts i)) in
      let n : length bytes ≡ length (map_text (map_base config) (with_digests config is.all is.layout)) = ap length (generates.text ∙ same) in
      let small = generates.within in
      let large = is.large in
      omega (arith, small, large, n)

pub nothing_refused : NothingRefused
nothing_refused tree config bytes generates =
    (no_refusal tree config bytes generates, not_too_wide tree config bytes generates, not_too_large tree config bytes generates)
