-- Of each path of a trace one thing is said: the shortest chain of requests to it, or that there is none.
use Rattle.std.proofs.Common.{◌≡◌, ◌⊎◌, ℕ, suc, true, false, List, [], ◌∷◌, Some, Ok, Contains, refl, sym, ap, ◌∙◌, inl, inr, true≢false}
use Rattle.std.specs.Prelude.{bytes_eq, slice_get}
use Rattle.std.proofs.lemmas.Bool.{cases_Bool}
use Rattle.tree_spec.specs.LookAskings.{Sights}
use Rattle.chain_spec.proofs.ChainLaws.{chain_where_reached, one_shortest, some_shortest}
use Rattle.chain_spec.specs.Chains.{Asker, by_page, by_module, IsChain, IsReached, page, asks}
use Rattle.layout_spec.proofs.Contained.{contains_at, contains_here, contains_there, contains_cases, contains_none}
use Rattle.trace_spec.proofs.Traces.{is_what_is_reached}
use Rattle.trace_spec.specs.Checks.{Gathered}
use Rattle.trace_spec.specs.Levels.{requested, page as the_start}
use Rattle.trace_spec.specs.Modules.{Config, Module}
use Rattle.trace_spec.specs.Traces.{targets, traced, ReachedByPage}
use Rattle.trace_spec.specs.Walking.{Referrer, the_page, a_module}
use Rattle.words_spec.proofs.PlainIsRead.{one_asked}
use Rattle.words_spec.specs.PlainWords.{explaining}
use Rattle.config_spec.specs.Words.{AsksWhy}
use Rattle.generator_spec.specs.Explaining.{referrer_of, asked_by, is_at, chain_lines, SaysWhy, SaysWhy as says_why}
use Rattle.generator_spec.specs.Lines.{from_page_line}

pub one_path_asked : (words : List (List ℕ)) (path other : List ℕ) → AsksWhy words path → AsksWhy words other → path ≡ other
one_path_asked words path other asks_one asks_other =
    let same : explaining path ≡ explaining other = one_asked words (explaining path) (explaining other) asks_one asks_other in cc

module _ (sights : Sights) (config : Config) (path : List ℕ) where
  -- ---- one at most

  pub one_explanation :
      (status other : ℕ) (lines others : List (List ℕ)) → SaysWhy sights config path status lines
      → SaysWhy sights config path other others → (status ≡ other) × (lines ≡ others)
  one_explanation status other lines others (says_why.reached numbers is s l) (says_why.reached numbers_too is_too t m) =
      let same = one_shortest (asked_by sights config) (is_at config path) numbers numbers_too is is_too in
      (s ∙ sym t, l ∙ (ap (λ n. from_page_line config.page ∷ chain_lines sights config by_page n) same ∙ sym m))
  one_explanation status other lines others (says_why.reached numbers is s l) (says_why.not_reached none t m) =
      absurd (none numbers is.is_chain)
  one_explanation status other lines others (says_why.not_reached none s l) (says_why.reached numbers is t m) =
      absurd (none numbers is.is_chain)
  one_explanation status other lines others (says_why.not_reached none s l) (says_why.not_reached none_too t m) =
      (s ∙ sym t, l ∙ sym m)

  -- ---- some

  pub record Explanation : Type 0 where
    pub status : ℕ
    pub lines : List (List ℕ)
    pub tells : SaysWhy sights config path status lines

  by_numbers : (numbers : List ℕ) → IsChain (asked_by sights config) (is_at config path) numbers → Explanation
  by_numbers numbers is =
      let shortest = some_shortest (asked_by sights config) (is_at config path) numbers is in
      record { status = 0; lines = _; tells = says_why.reached shortest.0 shortest.1 refl refl }

  by_none : ((numbers : List ℕ) → IsChain (asked_by sights config) (is_at config path) numbers → ⊥) → Explanation
  by_none none = record { status = 10; lines = _; tells = says_why.not_reached none refl refl }

  -- what a list contains stands at a number
  number_of : (m : Module) (list : List Module) → Contains list m → (number : ℕ) × (slice_get list number ≡ Some m)
  number_of m [] held = absurd (contains_none m held)
  number_of m (first ∷ more) held =
      elim (contains_cases m first more held) [
        | inl same ↦ (0, ap Some same)
        | inr later ↦ let found = number_of m more later in (suc found.0, found.1)
      ]

  -- what the page reaches, as chains know it and as the trace does
  abbrev asker_of : Referrer Module → Asker Module
  asker_of the_page = by_page
  asker_of (a_module m) = by_module m

  same_asker : (referrer : Referrer Module) → referrer_of (asker_of referrer) ≡ referrer
  same_asker the_page = refl
  same_asker (a_module m) = refl

  to_reached : (referrer : Referrer Module) → ReachedByPage sights config referrer → IsReached (asked_by sights config) (asker_of referrer)
  to_reached the_page the_start = page
  to_reached (a_module target) (requested {referrer} before held) =
      let number = number_of target (targets sights config referrer) held in
      asks (asker_of referrer) number.0 target (to_reached referrer before)
      (ap (λ r. slice_get (targets sights config r) number.0) (same_asker referrer) ∙ number.1)

  pub from_reached : (asker : Asker Module) → IsReached (asked_by sights config) asker → ReachedByPage sights config (referrer_of asker)
  from_reached _ page = the_start
  from_reached _ (asks from number m before there) =
      requested {referrer = referrer_of from} {target = m} (from_reached from before)
      (contains_at (targets sights config (referrer_of from)) number m there)

  -- a module at the path, or none
  record StandsIn (modules : List Module) : Type 0 where
    m : Module
    held : Contains modules m
    there : bytes_eq m.path path ≡ true

  in_modules : (modules : List Module) → StandsIn modules ⊎ ((m : Module) → Contains modules m → bytes_eq m.path path ≡ false)
  in_modules [] = inr (λ m held. absurd (contains_none m held))
  in_modules (first ∷ more) =
      elim (cases_Bool (bytes_eq first.path path)) [
        | inl there ↦ inl (record { m = first; held = contains_here first more; there = there })
        | inr other ↦ elim (in_modules more) [
          | inl found ↦ inl (record { m = found.m; held = contains_there found.m first more found.held; there = found.there })
          | inr none ↦ inr (λ m held. elim (contains_cases m first more held) [
            | inl same ↦ ap (λ (n : Module). bytes_eq n.path path) (sym same) ∙ other
            | inr later ↦ none m later
          ])
        ]
      ]

  module _ (all : Gathered) (traces : traced sights config ≡ Ok all) where
    reached_at : (m : Module) → Contains all.modules m → bytes_eq m.path path ≡ true → Explanation
    reached_at m held there =
        let found = (chain_where_reached (asked_by sights config) (is_at config path)).1
        (by_module m, to_reached (a_module m) ((is_what_is_reached sights config all traces m).0 held), there) in
        by_numbers found.0 found.1

    none_at :
        bytes_eq config.page path ≡ false → ((m : Module) → Contains all.modules m → bytes_eq m.path path ≡ false)
        → (asker : Asker Module) → IsReached (asked_by sights config) asker → is_at config path asker ≡ true → ⊥
    none_at other none by_page reached there = true≢false (sym there ∙ other)
    none_at other none (by_module m) reached there =
        true≢false (sym there ∙ none m ((is_what_is_reached sights config all traces m).1 (from_reached (by_module m) reached)))

    not_at_page : bytes_eq config.page path ≡ false → Explanation
    not_at_page other =
        elim (in_modules all.modules) [
          | inl found ↦ reached_at found.m found.held found.there
          | inr none ↦ by_none (λ numbers is.
              let way = (chain_where_reached (asked_by sights config) (is_at config path)).0 (numbers, is) in
              none_at other none way.0 way.1 way.2)
        ]

    pub some_explanation : Explanation
    some_explanation =
        elim (cases_Bool (bytes_eq config.page path)) [
          | inl there ↦ by_numbers [] (record { last = by_page; leads = refl; wanted = there })
          | inr other ↦ not_at_page other
        ]
