-- The goals of files, as they are gathered and listed.
use Rattle.std.proofs.Common.{◌≡◌, ◌≢◌, ◌⊎◌, ◌+◌, ◌≤◌, ◌<◌, ◌++◌, [], ◌∷◌, ℕ, List, Bool, true, false, length, take, cond, Option, Some, None, Result, Ok, Err, refl, sym, ap, ◌∙◌, subst, inl, inr, arith, ⊎_elim}
use Rattle.std.proofs.lemmas.List.Elements.{Contains-append_left, Contains-append_right, Contains-append_cases}
use Rattle.std.proofs.lemmas.Map.Lookups.{exact_bytes}
use Rattle.std.proofs.lemmas.Map.Text.{is_eq-slice_cmp}
use Rattle.std.proofs.lemmas.Map.Views.{btree_map_get_iff}
use Rattle.std.proofs.lemmas.Slice.Eq.{bytes_eq-Decides}
use Rattle.std.specs.BTreeMap.{BTreeMap, get, is_at, Updates}
use Rattle.std.specs.Bool.{Decides}
use Rattle.std.specs.Cmp.Lexicographic.{slice_cmp, nat_list_cmp_total}
use Rattle.std.specs.Map.{lookup}
use Rattle.std.specs.Ordering.{nat_cmp}
use Rattle.std.specs.Prelude.{◌↔◌, Contains, bytes_eq, slice_get}
use Rattle.package_lookup.specs.declared.known.Known.{Known}
use Rattle.tree_spec.proofs.Contained.{contains_here, contains_cases, contains_none}
use Rattle.tree_spec.specs.Paths.{IsPath}
use Rattle.tree_vendor.proofs.Elements.{contains_at, taken_more}
use Rattle.vendor_spec.proofs.GoalPaths.{goal_depth, too_deep}
use Rattle.vendor_spec.specs.Goals.{goal_of}
use Rattle.tree_vendor.specs.Copying.{Step}
use Rattle.tree_vendor.specs.Planning.{AreOfBytes, IsSource, InOrder, ArePlanned, Plans}
use Rattle.tree_vendor.specs.Planning.{IsTooLong, HasLongGoal, HasDeepGoal, IsBad, HasBadGoal, IsGoal, AreGoals}
use Rattle.tree_vendor.specs.declared.planning.VendorFault.{VendorFault}
use Rattle.tree_vendor.specs.declared.planning.VendorFault.TheVariants.{PathTooLong, TooManySegments, Memory}

abbrev Goals : Type 0
Goals = BTreeMap (List ℕ) (List ℕ)

-- the fault, as the result of the call that gathers the goals
abbrev pub failed : VendorFault → Result Goals VendorFault
failed fault = Err fault

abbrev goal_at : Goals → List ℕ → Option (List ℕ)
goal_at goals path = get (slice_cmp nat_cmp) goals path

pub last_one : {A : Type 0} (done : List A) (x other : A) → Contains (done ++ x ∷ []) other
    → Contains done other ⊎ (x ≡ other)
last_one done x other held =
    elim (Contains-append_cases done (x ∷ []) other held) [
      | inl earlier ↦ inl earlier
      | inr last ↦ elim (contains_cases other x [] last) [
        | inl same ↦ inr same
        | inr none ↦ absurd (contains_none other none)
      ]
    ]

module _ (known : Known) (to : List ℕ) where
  pub no_goals : (goals : Goals) → goals.entries ≡ [] → AreGoals known to [] goals
  no_goals goals none = record {
    each = λ path goal e.
        (let nothing : None ≡ Some goal = sym (ap (λ es. lookup (is_at (slice_cmp nat_cmp path)) es) none) ∙ e in
        absurd (cc));
    whole = λ path held. absurd (contains_none path held);
  }

  weaker : (done : List (List ℕ)) (path q goal : List ℕ) → IsGoal known to done q goal
      → IsGoal known to (done ++ path ∷ []) q goal
  weaker done path q goal was = record {
    looked_at = Contains-append_left done (path ∷ []) q was.looked_at;
    source = was.source;
    is = was.is;
    is_path = was.is_path;
  }

  -- no file is kept for the path
  pub goals_kept : (done : List (List ℕ)) (path : List ℕ) (goals : Goals) → (IsSource known path → ⊥)
      → AreGoals known to done goals → AreGoals known to (done ++ path ∷ []) goals
  goals_kept done path goals no_source were = record {
    each = λ q goal e. weaker done path q goal (were.each q goal e);
    whole = λ q held source. elim (last_one done path q held) [
      | inl earlier ↦ were.whole q earlier source
      | inr same ↦ absurd (no_source (subst (IsSource known) (sym same) source))
    ];
  }

  module _ (done : List (List ℕ)) (path goal : List ℕ) (before after : Goals) (source : IsSource known path)
      (is : goal ≡ goal_of to path) (is_path : IsPath goal)
      (put : Updates (slice_cmp nat_cmp) before after path (Some goal)) (were : AreGoals known to done before) where
    at : (q : List ℕ) → goal_at after q ≡ cond (bytes_eq path q) (Some goal) (goal_at before q)
    at q = put.0 q ∙ ap (λ b. cond b (Some goal) (goal_at before q)) (is_eq-slice_cmp path q)

    each_by : (b : Bool) (q other : List ℕ) → Decides b (path ≡ q) → cond b (Some goal) (goal_at before q) ≡ Some other
        → IsGoal known to (done ++ path ∷ []) q other
    each_by true q other d e =
        let same : path ≡ q = d.0 refl in
        let goals : goal ≡ other = cc in
        record {
          looked_at = subst (λ p. Contains (done ++ path ∷ []) p) same
              (Contains-append_right done (path ∷ []) path (contains_here path []));
          source = subst (IsSource known) same source;
          is = sym goals ∙ (is ∙ ap (goal_of to) same);
          is_path = subst IsPath goals is_path;
        }
    each_by false q other d e = weaker done path q other (were.each q other e)

    whole_by : (b : Bool) (q : List ℕ) → Decides b (path ≡ q) → Contains (done ++ path ∷ []) q → IsSource known q
        → cond b (Some goal) (goal_at before q) ≡ Some (goal_of to q)
    whole_by true q d held kept = ap Some (is ∙ ap (goal_of to) (d.0 refl))
    whole_by false q d held kept =
        elim (last_one done path q held) [
          | inl earlier ↦ were.whole q earlier kept
          | inr same ↦ (let wrong : false ≡ true = d.1 same in absurd (cc))
        ]

    pub goals_put : AreGoals known to (done ++ path ∷ []) after
    goals_put = record {
      each = λ q other e. each_by (bytes_eq path q) q other (bytes_eq-Decides path q) (sym (at q) ∙ e);
      whole = λ q held kept. at q ∙ whole_by (bytes_eq path q) q (bytes_eq-Decides path q) held kept;
    }

  -- the goals in the order of their sources
  pub planned : (footprint : List (List ℕ)) (goals : Goals) (steps : List Step) → steps ≡ goals.entries → InOrder steps
      → AreOfBytes footprint → AreGoals known to footprint goals → ArePlanned footprint known to steps
  planned footprint goals steps same in_order bytes are = record {
    looked_at = λ step held. (goal step held).looked_at;
    sources = λ step held. (goal step held).source;
    goals = λ step held. (goal step held).is;
    paths = λ step held. (goal step held).is_path;
    whole = λ path held source. subst (λ ps. Contains ps (path, goal_of to path)) (sym same)
        ((both path (goal_of to path)).0 (are.whole path held source));
    in_order = in_order;
    bytes = bytes;
  }
    where
      both : (path goal : List ℕ) → (goal_at goals path ≡ Some goal) ↔ Contains goals.entries (path, goal)
      both = btree_map_get_iff nat_list_cmp_total exact_bytes goals (subst InOrder same in_order)

      goal : (step : Step) → Contains steps step → IsGoal known to footprint step.0 step.1
      goal step held = are.each step.0 step.1 ((both step.0 step.1).1 (subst (λ ps. Contains ps step) same held))

  -- a goal of few bytes that is no path has too many segments
  pub deep_goal : (footprint : List (List ℕ)) → (HasLongGoal footprint known to → ⊥) → HasBadGoal footprint known to
      → HasDeepGoal footprint known to
  deep_goal footprint short has =
      let bad = has.is_bad in
      let depth = bad.to_is.depth + bad.is_path.depth in
      let segments = goal_depth to has.path bad.to_is.depth bad.is_path.depth bad.to_is.segments bad.is_path.segments bad.source.below_root in
      record {
        path = has.path;
        looked_at = has.looked_at;
        source = bad.source;
        depth = depth;
        segments = segments;
        deep = too_deep (goal_of to has.path) depth segments bad.bad
            (λ long. short (record {
              path = has.path;
              looked_at = has.looked_at;
              too_long = record { source = bad.source; long = long };
            }));
      }

  -- why there is no plan, where no goal has too many bytes
  pub plan_fails : (footprint : List (List ℕ)) (fault : VendorFault) → failed fault ≢ failed PathTooLong
      → (failed fault ≡ failed TooManySegments → HasBadGoal footprint known to) → (HasLongGoal footprint known to → ⊥)
      → Plans footprint known to (Err fault)
  plan_fails footprint PathTooLong other bad short = absurd (other refl)
  plan_fails footprint TooManySegments other bad short = (short, deep_goal footprint short (bad refl))
  plan_fails footprint Memory other bad short = tt

  -- ---- one path after another

  module _ (footprint : List (List ℕ)) (place : ℕ) (path : List ℕ) (at : slice_get footprint place ≡ Some path) where
    pub held_more : (P : List ℕ → Type 0) → ((p : List ℕ) → Contains (take place footprint) p → P p) → P path
        → (p : List ℕ) → Contains (take (place + 1) footprint) p → P p
    held_more P before here p held =
        elim (last_one (take place footprint) path p
        (subst (λ ps. Contains ps p) (taken_more footprint place path at) held)) [
          | inl earlier ↦ before p earlier
          | inr same ↦ subst P same here
        ]

    pub goals_more : (before after : Goals)
        → ((done : List (List ℕ)) → AreGoals known to done before → AreGoals known to (done ++ path ∷ []) after)
        → AreGoals known to (take place footprint) before → AreGoals known to (take (place + 1) footprint) after
    goals_more before after puts were =
        subst (λ done. AreGoals known to done after) (sym (taken_more footprint place path at))
        (puts (take place footprint) were)

    pub bad_here : IsBad known to path → HasBadGoal footprint known to
    bad_here bad = record { path = path; looked_at = contains_at footprint place path at; is_bad = bad }

    pub long_here : IsTooLong known to path → HasLongGoal footprint known to
    long_here long = record { path = path; looked_at = contains_at footprint place path at; too_long = long }

  pub none_long : (footprint : List (List ℕ))
      → ((p : List ℕ) → Contains footprint p → IsTooLong known to p → ⊥) → HasLongGoal footprint known to → ⊥
  none_long footprint none long = none long.path long.looked_at long.too_long
