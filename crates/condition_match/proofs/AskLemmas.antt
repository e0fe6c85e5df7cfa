-- Questions that follow one another.
use Rattle.std.proofs.Common.{◌≡◌, ◌≢◌, ◌++◌, ℕ, Bool, true, false, List, [], ◌∷◌, length, rules, refl, sym, ap, subst, ◌∙◌, inl, inr, append_assoc, append-nil}
use Rattle.std.specs.Prelude.{codes, Result, Ok, Err, IfOk, OnErr}
use Rattle.std.specs.Result.{IsErrAnd}
use Rattle.std.proofs.lemmas.Bool.{true≢false, cases_Bool}
use Rattle.std.proofs.lemmas.List.{nil_from_length}
use Rattle.url_spec.specs.Specifiers.{begins}
use Rattle.json_spec.specs.Value.{Json, a_list, Items, an_item, Members, a_member}
use Rattle.node_spec.specs.declared.BareAnswer.{BareAnswer}
use Rattle.node_spec.specs.declared.BareAnswer.TheVariants.{Stop}
use Rattle.node_spec.specs.declared.Outcome.{Outcome}
use Rattle.node_spec.specs.declared.Outcome.TheVariants.{Undefined, Null, Place, Bare, Stopped, InvalidTarget, InvalidSpecifier, InvalidConfig}
use Rattle.node_spec.specs.PackageTargets.{Rules, Call, own_outcome, names_package, with_match, bare_outcome, ResolvesText, has_index_key, is_tried, is_undefined, is_passed, last_of, ResolvesTarget, ResolvesMembers, ResolvesItems}
use Rattle.node_spec.specs.PackageTargets.ResolvesText.{own_place, bare, no_target}
use Rattle.node_spec.specs.PackageTargets.ResolvesTarget.{text_target, index_key, object_target, empty_list, list_target, null_target, bool_target, number_target}
use Rattle.node_spec.specs.PackageTargets.ResolvesMembers.{no_member, untried, defined, undefined}
use Rattle.node_spec.specs.PackageTargets.ResolvesItems.{no_item, decided, passed}
use Rattle.node_spec.specs.TargetCalls.{Calls}
use Rattle.ordered_json.specs.declared.value.Value as value
use Rattle.ordered_json.specs.declared.value.Value.{Value}
use Rattle.ordered_json.specs.declared.value.Items as code
use Rattle.ordered_json.specs.declared.value.Members as code_members
use Rattle.ordered_json.specs.Lists.{values_of, pairs_of}
use Rattle.ordered_json.proofs.ShownLemmas.{json_of_list, json_of_object, json_of_text}
use Rattle.ordered_json.proofs.IsJsonLemmas.{json_of_null, json_of_bool, json_of_number}
use Rattle.ordered_json.specs.Shown.{json_of, items_of, members_of}
use Rattle.node_spec.proofs.PlacesBeginWithDotSlash.{places_begin_with_dot_slash}
use Rattle.node_spec.proofs.SomeOutcome.{found_text, found_items, found_members, undefined_from, text_found, sound_items, sound_members}
use Rattle.condition_match.specs.Choosing.{Asks, IsLeft, Begins, Comes, AsksOne, Chooses, Tries}

-- ---- outcomes

behind_nothing : (out : Outcome) → out ≡ last_of Undefined out
behind_nothing Undefined = refl
behind_nothing Null = refl
behind_nothing (Place text) = refl
behind_nothing Bare = refl
behind_nothing Stopped = refl
behind_nothing InvalidTarget = refl
behind_nothing InvalidSpecifier = refl
behind_nothing InvalidConfig = refl

decides : (last out : Outcome) → is_passed out ≡ false → last_of last out ≡ out
decides last Undefined e = absurd (cc)
decides last Null e = refl
decides last (Place text) e = refl
decides last Bare e = refl
decides last Stopped e = refl
decides last InvalidTarget e = refl
decides last InvalidSpecifier e = refl
decides last InvalidConfig e = refl

last_of_three : (last first out : Outcome) → last_of last (last_of first out) ≡ last_of (last_of last first) out
last_of_three last first Undefined = refl
last_of_three last first Null = refl
last_of_three last first (Place text) = refl
last_of_three last first Bare = refl
last_of_three last first Stopped = refl
last_of_three last first InvalidTarget = refl
last_of_three last first InvalidSpecifier = refl
last_of_three last first InvalidConfig = refl

a_full_list : (rules : Rules) (values : List Value) (asked : List Call) (out : Outcome) → length values ≢ 0 → ResolvesItems rules (items_of values) asked out → ResolvesTarget rules (a_list (items_of values)) asked out
a_full_list rules [] asked out some r = absurd (some refl)
a_full_list rules (v ∷ values) asked out some r = list_target (json_of v) (items_of values) asked out r

-- ---- a value by its kind

pub text_value : (rules : Rules) (v : Value) (text : List ℕ) → v ≡ value.Text text → (asked : List Call) (out : Outcome) → ResolvesText rules text asked out → ResolvesTarget rules (json_of v) asked out
text_value rules v text e asked out r = subst (λ j. ResolvesTarget rules j asked out) (sym (ap json_of e ∙ json_of_text text)) (text_target text asked out r)

pub list_value : (rules : Rules) (v : Value) (items : code.Items) → v ≡ value.List items → length (values_of items) ≢ 0 → (asked : List Call) (out : Outcome) → ResolvesItems rules (items_of (values_of items)) asked out → ResolvesTarget rules (json_of v) asked out
list_value rules v items e some asked out r = subst (λ j. ResolvesTarget rules j asked out) (sym (ap json_of e ∙ json_of_list items)) (a_full_list rules (values_of items) asked out some r)

pub object_value : (rules : Rules) (v : Value) (members : code_members.Members) → v ≡ value.Object members → has_index_key (members_of (pairs_of members)) ≡ false → (asked : List Call) (out : Outcome) → ResolvesMembers rules (members_of (pairs_of members)) asked out → ResolvesTarget rules (json_of v) asked out
object_value rules v members e none asked out r =
    subst (λ j. ResolvesTarget rules j asked out) (sym (ap json_of e ∙ json_of_object members)) (object_target (members_of (pairs_of members)) asked out none r)

-- ---- calls

module _ {B : Type 0} (gives : B → List ℕ → BareAnswer → B → Type 0) where
  calls_join : (a b c : B) (xs ys : List Call) → Calls gives a xs b → Calls gives b ys c → Calls gives a (xs ++ ys) c
  calls_join a b c [] ys p q = subst (λ m. Calls gives m ys c) p q
  calls_join a b c (x ∷ xs) ys p q = (p.0, p.1, calls_join p.0 b c xs ys p.2 q)

  -- nothing is asked
  pub silent : {Is : List Call → Outcome → Type 0} (old new : B) (out : Outcome) → new ≡ old → Is [] out → Asks gives Is old new out
  silent old new out same is = record { asked = []; calls = same; is = is }

  pub asks_as : {Is Other : List Call → Outcome → Type 0} (old new : B) (out : Outcome) → ((asked : List Call) → Is asked out → Other asked out) → Asks gives Is old new out → Asks gives Other old new out
  asks_as old new out turn a = record { asked = a.asked; calls = a.calls; is = turn a.asked a.is }

  -- whatever the rest comes to, the whole comes to it, behind what was asked so far
  pub record Completes (Whole Rest : List Call → Outcome → Type 0) (shape : Outcome → Outcome) (old now : B) : Type 0 where
    pub asked : List Call
    pub calls : Calls gives old asked now
    pub completes : (more : List Call) (out : Outcome) → Rest more out → Whole (asked ++ more) (shape out)

  onwards : {Whole Rest Next : List Call → Outcome → Type 0} {shape after : Outcome → Outcome} (inner : Outcome → Outcome) (old middle now : B) (asked : List Call) → Completes Whole Rest shape old middle → Calls gives middle asked now → ((out : Outcome) → shape (inner out) ≡ after out) → ((more : List Call) (out : Outcome) → Next more out → Rest (asked ++ more) (inner out)) → Completes Whole Next after old now
  onwards {Whole = Whole} {after = after} inner old middle now asked c calls same step =
      record {
        asked = c.asked ++ asked;
        calls = calls_join old middle now c.asked asked c.calls calls;
        completes = λ more out is. subst (λ xs. Whole xs (after out)) (sym (append_assoc c.asked asked more)) (subst (λ o. Whole (c.asked ++ (asked ++ more)) o) (same out) (c.completes (asked ++ more) (inner out) (step more out is)));
      }

  ends : {Whole Rest : List Call → Outcome → Type 0} {shape : Outcome → Outcome} (old middle now : B) (out : Outcome) → Completes Whole Rest shape old middle → Asks gives Rest middle now out → Asks gives Whole old now (shape out)
  ends old middle now out c a = record { asked = c.asked ++ a.asked; calls = calls_join old middle now c.asked a.asked c.calls a.calls; is = c.completes a.asked out a.is }

  chosen : (rules : Rules) (target : Json) (old now : B) (out : Outcome) → Asks gives (ResolvesTarget rules target) old now out → Chooses gives rules target old now out
  chosen rules target old now out a =
      record {
        asked = a.asked;
        calls = a.calls;
        resolves = a.is;
        under = λ answers agrees. record { asked = a.asked; agrees = agrees; resolves = a.is };
        place = places_begin_with_dot_slash rules target a.asked out a.is;
      }

  module _ (fails : B → List ℕ → B → Type 0) where
    pub if_chosen : {E : Type 0} (rules : Rules) (target : Json) (old now : B) (found : Result Outcome E) → Comes gives fails (ResolvesTarget rules target) old now found → IfOk found (Chooses gives rules target old now)
    if_chosen rules target old now (Ok out) a = chosen rules target old now out a
    if_chosen rules target old now (Err fault) b = tt

    pub if_begun : {E : Type 0} (Is : List Call → Outcome → Type 0) (old now : B) (found : Result Outcome E) → Comes gives fails Is old now found → OnErr found (Begins gives fails Is old now)
    if_begun Is old now (Ok out) a = tt
    if_begun Is old now (Err fault) b = b

    -- what `?` hands on
    pub comes_err : {E : Type 0} (Q : E → Type 0) (Is : List Call → Outcome → Type 0) (old now : B) (found : Result Outcome E) → IsErrAnd found Q → Begins gives fails Is old now → Comes gives fails Is old now found
    comes_err Q Is old now (Ok out) is b = absurd is
    comes_err Q Is old now (Err fault) is b = b

    pub comes_as : {E : Type 0} (Is Other : List Call → Outcome → Type 0) (old now : B) (found : Result Outcome E) → ((asked : List Call) (out : Outcome) → Is asked out → Other asked out) → Comes gives fails Is old now found → Comes gives fails Other old now found
    comes_as Is Other old now (Ok out) turn a = asks_as old now out (λ asked is. turn asked out is) a
    comes_as Is Other old now (Err fault) turn b =
        record { asked = b.asked; middle = b.middle; calls = b.calls; more = b.more; out = b.out; is = turn (b.asked ++ b.more) b.out b.is; left = b.left }

    -- ---- memory is wanted

    untouched : (middle now : B) (more : List Call) → now ≡ middle → IsLeft fails middle more now
    untouched middle now [] same = same
    untouched middle now (call ∷ more) same = inl same

    pub unasked : {Is : List Call → Outcome → Type 0} (old now : B) (more : List Call) (out : Outcome) → now ≡ old → Is more out → Begins gives fails Is old now
    unasked old now more out same is = record { asked = []; middle = old; calls = refl; more = more; out = out; is = is; left = untouched old now more same }

    left_longer : (middle now : B) (more others : List Call) → IsLeft fails middle more now → IsLeft fails middle (more ++ others) now
    left_longer middle now [] others same = untouched middle now others same
    left_longer middle now (call ∷ more) others left = left

    -- more texts come behind those that are missing
    begins_with : {Is Other : List Call → Outcome → Type 0} (old now : B) → ((asked : List Call) (out : Outcome) → Is asked out → (others : List Call) × (found : Outcome) × Other (asked ++ others) found) → Begins gives fails Is old now → Begins gives fails Other old now
    begins_with {Other = Other} old now turn b =
        let further = turn (b.asked ++ b.more) b.out b.is in
        record {
          asked = b.asked;
          middle = b.middle;
          calls = b.calls;
          more = b.more ++ further.0;
          out = further.1;
          is = subst (λ xs. Other xs further.1) (append_assoc b.asked b.more further.0) further.2;
          left = left_longer b.middle now b.more further.0 b.left;
        }

    -- and fewer before those that were asked for
    begins_behind : {Whole Rest : List Call → Outcome → Type 0} {shape : Outcome → Outcome} (old middle now : B) → Completes Whole Rest shape old middle → Begins gives fails Rest middle now → Begins gives fails Whole old now
    begins_behind {Whole = Whole} {shape = shape} old middle now c b =
        record {
          asked = c.asked ++ b.asked;
          middle = b.middle;
          calls = calls_join old middle b.middle c.asked b.asked c.calls b.calls;
          more = b.more;
          out = shape b.out;
          is = subst (λ xs. Whole xs (shape b.out)) (sym (append_assoc c.asked b.asked b.more)) (c.completes (b.asked ++ b.more) b.out b.is);
          left = b.left;
        }

    module _ (rules : Rules) where
      -- what answers the texts that weren't asked for counts for nothing
      stops : List ℕ → BareAnswer
      stops text = Stop

      item_goes_on : (item : Json) (more : Items) (asked : List Call) (out : Outcome) → ResolvesTarget rules item asked out → (others : List Call) × (found : Outcome) × ResolvesItems rules (an_item item more) (asked ++ others) found
      item_goes_on item more asked out r =
          elim (cases_Bool (is_passed out)) [
            | inl p ↦ (let f = found_items stops rules more in (f.asked, last_of out f.out, passed item more asked f.asked out f.out r p (sound_items stops rules more)))
            | inr d ↦ ([], out, subst (λ xs. ResolvesItems rules (an_item item more) xs out) (sym (append-nil asked)) (decided item more asked out r d))
          ]

      tried_goes_on : (key : List ℕ) (value : Json) (more : Members) (asked : List Call) (out : Outcome) → is_tried rules.conditions key ≡ true → ResolvesTarget rules value asked out → (others : List Call) × (found : Outcome) × ResolvesMembers rules (a_member key value more) (asked ++ others) found
      tried_goes_on key value more asked out t r =
          elim (cases_Bool (is_undefined out)) [
            | inl u ↦ (let f = found_members stops rules more in (f.asked, f.out, undefined key value more asked f.asked f.out t (subst (λ o. ResolvesTarget rules value asked o) (undefined_from out u) r) (sound_members stops rules more)))
            | inr d ↦ ([], out, subst (λ xs. ResolvesMembers rules (a_member key value more) xs out) (sym (append-nil asked)) (defined key value more asked out t r d))
          ]

      member_goes_on : (key : List ℕ) (value : Json) (more : Members) (asked : List Call) (out : Outcome) → Tries rules key value asked out → (others : List Call) × (found : Outcome) × ResolvesMembers rules (a_member key value more) (asked ++ others) found
      member_goes_on key value more asked out (inl skipped) =
          let f = found_members stops rules more in
          (f.asked, f.out, subst (λ xs. ResolvesMembers rules (a_member key value more) (xs ++ f.asked) f.out) (sym skipped.1) (untried key value more f.asked f.out skipped.0 (sound_members stops rules more)))
      member_goes_on key value more asked out (inr tried) = tried_goes_on key value more asked out tried.0 tried.1

      pub item_begun : (values rest more : List Value) (v : Value) (last : Outcome) (old middle now : B) → Completes (ResolvesItems rules (items_of values)) (ResolvesItems rules (items_of rest)) (last_of last) old middle → rest ≡ v ∷ more → Begins gives fails (ResolvesTarget rules (json_of v)) middle now → Begins gives fails (ResolvesItems rules (items_of values)) old now
      item_begun values rest more v last old middle now c split b =
          begins_behind old middle now c
          (begins_with middle now
          (λ asked out r. subst (λ vs. (others : List Call) × (found : Outcome) × ResolvesItems rules (items_of vs) (asked ++ others) found) (sym split) (item_goes_on (json_of v) (items_of more) asked out r)) b)

      pub member_begun : (pairs rest more : List (List ℕ × Value)) (key : List ℕ) (v : Value) (old middle now : B) → Completes (ResolvesMembers rules (members_of pairs)) (ResolvesMembers rules (members_of rest)) (λ out. out) old middle → rest ≡ (key, v) ∷ more → Begins gives fails (Tries rules key (json_of v)) middle now → Begins gives fails (ResolvesMembers rules (members_of pairs)) old now
      member_begun pairs rest more key v old middle now c split b =
          begins_behind old middle now c
          (begins_with middle now
          (λ asked out r. subst (λ ps. (others : List Call) × (found : Outcome) × ResolvesMembers rules (members_of ps) (asked ++ others) found) (sym split) (member_goes_on key (json_of v) (members_of more) asked out r)) b)

      pub text_begun : (target : List ℕ) (old : B) → Begins gives fails (ResolvesText rules target) old old
      text_begun target old = let f = found_text stops rules target in unasked old old f.asked f.out refl (text_found stops rules target)

      pub own_comes : {E : Type 0} (target : List ℕ) (old : B) (found : Result Outcome E) → begins target (codes "./") ≡ true → IfOk found (λ out. out ≡ own_outcome rules.pattern_match target) → Comes gives fails (ResolvesText rules target) old old found
      own_comes target old (Ok out) e is = silent old old out refl (subst (λ o. ResolvesText rules target [] o) (sym is) (own_place e))
      own_comes target old (Err fault) e is = text_begun target old

      pub bare_comes : {E : Type 0} (target : List ℕ) (old now : B) (found : Result Outcome E) → begins target (codes "./") ≡ false → names_package rules.is_imports target ≡ true → AsksOne gives fails (with_match rules.pattern_match target) old now found → Comes gives fails (ResolvesText rules target) old now found
      bare_comes target old now (Ok out) e n called =
          record {
            asked = (with_match rules.pattern_match target, called.0) ∷ [];
            calls = (now, called.1, refl);
            is = subst (λ o. ResolvesText rules target ((with_match rules.pattern_match target, called.0) ∷ []) o) (sym called.2) (bare called.0 e n);
          }
      bare_comes target old now (Err fault) e n left =
          record {
            asked = [];
            middle = old;
            calls = refl;
            more = (with_match rules.pattern_match target, Stop) ∷ [];
            out = bare_outcome Stop;
            is = bare Stop e n;
            left = left;
          }

  module _ (rules : Rules) where
    -- ---- the items of a list

    pub first_item : (values : List Value) (rest : List Value) (last : Outcome) (old now : B) → now ≡ old → rest ≡ values → last ≡ Undefined → Completes (ResolvesItems rules (items_of values)) (ResolvesItems rules (items_of rest)) (last_of last) old now
    first_item values rest last old now same whole none =
        record {
          asked = [];
          calls = same;
          completes = λ more out is. subst (λ o. ResolvesItems rules (items_of values) more o) (behind_nothing out ∙ ap (λ l. last_of l out) (sym none)) (subst (λ vs. ResolvesItems rules (items_of vs) more out) whole is);
        }

    pub item_passed : (values rest more : List Value) (v : Value) (last first after : Outcome) (old middle now : B) → Completes (ResolvesItems rules (items_of values)) (ResolvesItems rules (items_of rest)) (last_of last) old middle → rest ≡ v ∷ more → Asks gives (ResolvesTarget rules (json_of v)) middle now first → is_passed first ≡ true → after ≡ last_of last first → Completes (ResolvesItems rules (items_of values)) (ResolvesItems rules (items_of more)) (last_of after) old now
    item_passed values rest more v last first after old middle now c split a goes_on is =
        onwards (last_of first) old middle now a.asked c a.calls (λ out. last_of_three last first out ∙ ap (λ l. last_of l out) (sym is))
        (λ asked out r. subst (λ vs. ResolvesItems rules (items_of vs) (a.asked ++ asked) (last_of first out)) (sym split) (passed (json_of v) (items_of more) a.asked asked first out a.is goes_on r))

    pub item_decided : (values rest more : List Value) (v : Value) (last out : Outcome) (old middle now : B) → Completes (ResolvesItems rules (items_of values)) (ResolvesItems rules (items_of rest)) (last_of last) old middle → rest ≡ v ∷ more → Asks gives (ResolvesTarget rules (json_of v)) middle now out → is_passed out ≡ false → Asks gives (ResolvesItems rules (items_of values)) old now out
    item_decided values rest more v last out old middle now c split a stops =
        subst (λ o. Asks gives (ResolvesItems rules (items_of values)) old now o) (decides last out stops)
        (ends old middle now out c (asks_as middle now out (λ asked is. subst (λ vs. ResolvesItems rules (items_of vs) asked out) (sym split) (decided (json_of v) (items_of more) asked out is stops)) a))

    pub items_end : (values rest : List Value) (last : Outcome) (old now : B) → Completes (ResolvesItems rules (items_of values)) (ResolvesItems rules (items_of rest)) (last_of last) old now → rest ≡ [] → Asks gives (ResolvesItems rules (items_of values)) old now last
    items_end values rest last old now c none = ends old now now Undefined c (silent now now Undefined refl (subst (λ vs. ResolvesItems rules (items_of vs) [] Undefined) (sym none) no_item))

    -- ---- the members of an object

    pub first_member : (pairs rest : List (List ℕ × Value)) (old now : B) → now ≡ old → rest ≡ pairs → Completes (ResolvesMembers rules (members_of pairs)) (ResolvesMembers rules (members_of rest)) (λ out. out) old now
    first_member pairs rest old now same whole =
        record { asked = []; calls = same; completes = λ more out is. subst (λ ps. ResolvesMembers rules (members_of ps) more out) whole is }

    member_step : (key : List ℕ) (v : Value) (more : List (List ℕ × Value)) (asked : List Call) (out : Outcome) → Tries rules key (json_of v) asked out → is_undefined out ≡ true → (others : List Call) (found : Outcome) → ResolvesMembers rules (members_of more) others found → ResolvesMembers rules (members_of ((key, v) ∷ more)) (asked ++ others) found
    member_step key v more asked out tries none others found r =
        elim tries [
          | inl skipped ↦ subst (λ xs. ResolvesMembers rules (members_of ((key, v) ∷ more)) (xs ++ others) found) (sym skipped.1) (untried key (json_of v) (members_of more) others found skipped.0 r)
          | inr tried ↦ undefined key (json_of v) (members_of more) asked others found tried.0 (subst (λ o. ResolvesTarget rules (json_of v) asked o) (undefined_from out none) tried.1) r
        ]

    pub member_undefined : (pairs rest more : List (List ℕ × Value)) (key : List ℕ) (v : Value) (out : Outcome) (old middle now : B) → Completes (ResolvesMembers rules (members_of pairs)) (ResolvesMembers rules (members_of rest)) (λ o. o) old middle → rest ≡ (key, v) ∷ more → Asks gives (Tries rules key (json_of v)) middle now out → is_undefined out ≡ true → Completes (ResolvesMembers rules (members_of pairs)) (ResolvesMembers rules (members_of more)) (λ o. o) old now
    member_undefined pairs rest more key v out old middle now c split a none =
        onwards (λ o. o) old middle now a.asked c a.calls (λ o. refl) (λ asked found r. subst (λ ps. ResolvesMembers rules (members_of ps) (a.asked ++ asked) found) (sym split) (member_step key v more a.asked out a.is none asked found r))

    pub member_defined : (pairs rest more : List (List ℕ × Value)) (key : List ℕ) (v : Value) (out : Outcome) (old middle now : B) → Completes (ResolvesMembers rules (members_of pairs)) (ResolvesMembers rules (members_of rest)) (λ o. o) old middle → rest ≡ (key, v) ∷ more → Asks gives (Tries rules key (json_of v)) middle now out → is_undefined out ≡ false → Asks gives (ResolvesMembers rules (members_of pairs)) old now out
    member_defined pairs rest more key v out old middle now c split a some =
        ends old middle now out c
        (asks_as middle now out
        (λ asked tries. subst (λ ps. ResolvesMembers rules (members_of ps) asked out) (sym split)
        (elim tries [ inl skipped ↦ absurd (true≢false (sym (ap is_undefined skipped.2) ∙ some)) | inr tried ↦ defined key (json_of v) (members_of more) asked out tried.0 tried.1 some ]))
        a)

    pub members_end : (pairs rest : List (List ℕ × Value)) (old now : B) → Completes (ResolvesMembers rules (members_of pairs)) (ResolvesMembers rules (members_of rest)) (λ o. o) old now → rest ≡ [] → Asks gives (ResolvesMembers rules (members_of pairs)) old now Undefined
    members_end pairs rest old now c none = ends old now now Undefined c (silent now now Undefined refl (subst (λ ps. ResolvesMembers rules (members_of ps) [] Undefined) (sym none) no_member))

    -- ---- a string

    pub none_chosen : (target : List ℕ) (old : B) → begins target (codes "./") ≡ false → names_package rules.is_imports target ≡ false → Asks gives (ResolvesText rules target) old old InvalidTarget
    none_chosen target old e n = silent old old InvalidTarget refl (no_target e n)

    -- ---- a value that asks for nothing

    pub null_chosen : (v : Value) (old now : B) → v ≡ value.Null → now ≡ old → Asks gives (ResolvesTarget rules (json_of v)) old now Null
    null_chosen v old now e same = silent old now Null same (subst (λ j. ResolvesTarget rules j [] Null) (sym (ap json_of e ∙ json_of_null)) null_target)

    pub bool_chosen : (v : Value) (b : Bool) (old now : B) → v ≡ value.Bool b → now ≡ old → Asks gives (ResolvesTarget rules (json_of v)) old now InvalidTarget
    bool_chosen v b old now e same = silent old now InvalidTarget same (subst (λ j. ResolvesTarget rules j [] InvalidTarget) (sym (ap json_of e ∙ json_of_bool b)) (bool_target b))

    pub number_chosen : (v : Value) (number : List ℕ) (old now : B) → v ≡ value.Number number → now ≡ old → Asks gives (ResolvesTarget rules (json_of v)) old now InvalidTarget
    number_chosen v number old now e same =
        silent old now InvalidTarget same (subst (λ j. ResolvesTarget rules j [] InvalidTarget) (sym (ap json_of e ∙ json_of_number number)) (number_target number))

    pub empty_chosen : (v : Value) (items : code.Items) (old now : B) → v ≡ value.List items → length (values_of items) ≡ 0 → now ≡ old → Asks gives (ResolvesTarget rules (json_of v)) old now Null
    empty_chosen v items old now e none same =
        silent old now Null same (subst (λ j. ResolvesTarget rules j [] Null) (sym (ap json_of e ∙ (json_of_list items ∙ ap (λ vs. a_list (items_of vs)) (nil_from_length (values_of items) none)))) empty_list)

    pub index_chosen : (v : Value) (members : code_members.Members) (old now : B) → v ≡ value.Object members → has_index_key (members_of (pairs_of members)) ≡ true → now ≡ old → Asks gives (ResolvesTarget rules (json_of v)) old now InvalidConfig
    index_chosen v members old now e has same =
        silent old now InvalidConfig same (subst (λ j. ResolvesTarget rules j [] InvalidConfig) (sym (ap json_of e ∙ json_of_object members)) (index_key (members_of (pairs_of members)) has))
