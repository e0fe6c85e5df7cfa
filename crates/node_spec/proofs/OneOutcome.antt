-- One outcome of a target, and one list of texts that it asks for.
use Rattle.std.proofs.Common.{◌++◌, List, [], ◌∷◌, refl, sym, ap, ◌∙◌, subst, ◌≡◌, Bool, true, false, ℕ, Some}
use Rattle.std.proofs.lemmas.Bool.{true≢false}
use Rattle.std.specs.FinMap.{get}
use Rattle.json_spec.specs.Value.{Json, Items, Members}
use Rattle.node_spec.specs.BareCalls.{Alike, IsSame, answers_of}
use Rattle.node_spec.specs.Laws.{OneOutcome, AnswersDetermine, OneUnder}
use Rattle.node_spec.specs.PackageTargets.{Call, last_of, Rules, with_match, bare_outcome, ResolvesText, is_undefined, is_passed, ResolvesTarget, ResolvesMembers, ResolvesItems, Answers, Agrees}
use Rattle.node_spec.specs.PackageTargets.ResolvesItems.{no_item, decided, passed}
use Rattle.node_spec.specs.PackageTargets.ResolvesMembers.{no_member, untried, defined, undefined}
use Rattle.node_spec.specs.PackageTargets.ResolvesTarget.{text_target, index_key, object_target, empty_list, list_target, null_target, bool_target, number_target}
use Rattle.node_spec.specs.PackageTargets.ResolvesText.{own_place, bare, no_target}
use Rattle.node_spec.specs.declared.Outcome.{Outcome}
use Rattle.node_spec.specs.declared.Outcome.TheVariants.{Undefined}

front_alike : (a b c : List Call) → Alike (a ++ c) b → Alike a b
front_alike [] b c h = tt
front_alike (x ∷ a) [] c h = tt
front_alike (x ∷ a) (y ∷ b) c h = λ e. ((h e).0, front_alike a b c (h e).1)

other_front_alike : (a b c : List Call) → Alike a (b ++ c) → Alike a b
other_front_alike [] b c h = tt
other_front_alike (x ∷ a) [] c h = tt
other_front_alike (x ∷ a) (y ∷ b) c h = λ e. ((h e).0, other_front_alike a b c (h e).1)

back_alike : (front a b : List Call) → Alike (front ++ a) (front ++ b) → Alike a b
back_alike [] a b h = h
back_alike (x ∷ front) a b h = back_alike front a b (h refl).1

same : (a : List Call) (x : Outcome) → IsSame a a x x
same a x = record { calls = refl; outcome = refl }

-- what is passed is the same, and then what comes behind it
joined : (front front' back back' : List Call) (first first' rest rest' : Outcome) → IsSame front front' first first' → (Alike back back' → IsSame back back' rest rest') → Alike (front ++ back) (front' ++ back') → IsSame (front ++ back) (front' ++ back') (last_of first rest) (last_of first' rest')
joined front front' back back' first first' rest rest' one more alike =
    let behind = more (back_alike front back back' (subst (λ xs. Alike (front ++ back) (xs ++ back')) (sym one.calls) alike)) in
    record {
      calls = ap (λ xs. xs ++ back) one.calls ∙ ap (λ xs. front' ++ xs) behind.calls;
      outcome = ap (λ o. last_of o rest) one.outcome ∙ ap (last_of first') behind.outcome;
    }

behind_undefined : (front front' back back' : List Call) (out out' : Outcome) → IsSame front front' Undefined Undefined → (Alike back back' → IsSame back back' out out') → Alike (front ++ back) (front' ++ back') → IsSame (front ++ back) (front' ++ back') out out'
behind_undefined front front' back back' out out' one more alike =
    let behind = more (back_alike front back back' (subst (λ xs. Alike (front ++ back) (xs ++ back')) (sym one.calls) alike)) in
    record { calls = ap (λ xs. xs ++ back) one.calls ∙ ap (λ xs. front' ++ xs) behind.calls; outcome = behind.outcome }

differ : (test : Outcome → Bool) (x y : Outcome) → test x ≡ true → test y ≡ false → x ≡ y → ⊥
differ test x y holds fails e = true≢false (sym holds ∙ (ap test e ∙ fails))

one_text : (rules : Rules) (target : List ℕ) (a b : List Call) (x y : Outcome) → ResolvesText rules target a x → ResolvesText rules target b y → Alike a b → IsSame a b x y
one_text rules target a b x y (own_place e) (own_place f) alike = same _ _
one_text rules target a b x y (own_place e) (bare answer f n) alike = absurd (true≢false (sym e ∙ f))
one_text rules target a b x y (own_place e) (no_target f n) alike = absurd (true≢false (sym e ∙ f))
one_text rules target a b x y (bare answer e m) (own_place f) alike = absurd (true≢false (sym f ∙ e))
one_text rules target a b x y (bare answer e m) (bare other f n) alike =
    let answers : answer ≡ other = (alike refl).0 in
    record { calls = ap (λ o. (with_match rules.pattern_match target, o) ∷ []) answers; outcome = ap bare_outcome answers }
one_text rules target a b x y (bare answer e m) (no_target f n) alike = absurd (true≢false (sym m ∙ n))
one_text rules target a b x y (no_target e m) (own_place f) alike = absurd (true≢false (sym f ∙ e))
one_text rules target a b x y (no_target e m) (bare answer f n) alike = absurd (true≢false (sym n ∙ m))
one_text rules target a b x y (no_target e m) (no_target f n) alike = same _ _

mutual
  one : (rules : Rules) (target : Json) (a b : List Call) (x y : Outcome) → ResolvesTarget rules target a x → ResolvesTarget rules target b y → Alike a b → IsSame a b x y
  one rules target a b x y (text_target text _ _ r) (text_target _ _ _ s) alike = one_text rules text a b x y r s alike
  one rules target a b x y (index_key ms e) (index_key _ f) alike = same _ _
  one rules target a b x y (index_key ms e) (object_target _ _ _ f s) alike = absurd (true≢false (sym e ∙ f))
  one rules target a b x y (object_target ms _ _ e r) (index_key _ f) alike = absurd (true≢false (sym f ∙ e))
  one rules target a b x y (object_target ms _ _ e r) (object_target _ _ _ f s) alike = one_member rules ms a b x y r s alike
  one rules target a b x y empty_list empty_list alike = same _ _
  one rules target a b x y (list_target v more _ _ r) (list_target _ _ _ _ s) alike = one_item rules _ a b x y r s alike
  one rules target a b x y null_target null_target alike = same _ _
  one rules target a b x y (bool_target p) (bool_target _) alike = same _ _
  one rules target a b x y (number_target n) (number_target _) alike = same _ _

  one_member : (rules : Rules) (ms : Members) (a b : List Call) (x y : Outcome) → ResolvesMembers rules ms a x → ResolvesMembers rules ms b y → Alike a b → IsSame a b x y
  one_member rules ms a b x y no_member no_member alike = same _ _
  one_member rules ms a b x y (untried key v more _ _ e r) (untried _ _ _ _ _ f s) alike = one_member rules more a b x y r s alike
  one_member rules ms a b x y (untried key v more _ _ e r) (defined _ _ _ _ _ f s u) alike = absurd (true≢false (sym f ∙ e))
  one_member rules ms a b x y (untried key v more _ _ e r) (undefined _ _ _ _ _ _ f s t) alike = absurd (true≢false (sym f ∙ e))
  one_member rules ms a b x y (defined key v more _ _ e r u) (untried _ _ _ _ _ f s) alike = absurd (true≢false (sym e ∙ f))
  one_member rules ms a b x y (defined key v more _ _ e r u) (defined _ _ _ _ _ f s w) alike = one rules v a b x y r s alike
  one_member rules ms a b x y (defined key v more _ _ e r u) (undefined _ _ _ front back _ f s t) alike =
      absurd (differ is_undefined Undefined x refl u (sym (one rules v a front x Undefined r s (other_front_alike a front back alike)).outcome))
  one_member rules ms a b x y (undefined key v more front back _ e r t) (untried _ _ _ _ _ f s) alike = absurd (true≢false (sym e ∙ f))
  one_member rules ms a b x y (undefined key v more front back _ e r t) (defined _ _ _ _ _ f s w) alike =
      absurd (differ is_undefined Undefined y refl w (one rules v front b Undefined y r s (front_alike front b back alike)).outcome)
  one_member rules ms a b x y (undefined key v more front back _ e r t) (undefined _ _ _ front' back' _ f s u) alike =
      behind_undefined front front' back back' x y (one rules v front front' Undefined Undefined r s (other_front_alike front front' back' (front_alike front _ back alike))) (one_member rules more back back' x y t u) alike

  one_item : (rules : Rules) (items : Items) (a b : List Call) (x y : Outcome) → ResolvesItems rules items a x → ResolvesItems rules items b y → Alike a b → IsSame a b x y
  one_item rules items a b x y no_item no_item alike = same _ _
  one_item rules items a b x y (decided v more _ _ r d) (decided _ _ _ _ s e) alike = one rules v a b x y r s alike
  one_item rules items a b x y (decided v more _ _ r d) (passed _ _ front back first rest s p t) alike =
      absurd (differ is_passed first x p d (sym (one rules v a front x first r s (other_front_alike a front back alike)).outcome))
  one_item rules items a b x y (passed v more front back first rest r p t) (decided _ _ _ _ s e) alike =
      absurd (differ is_passed first y p e (one rules v front b first y r s (front_alike front b back alike)).outcome)
  one_item rules items a b x y (passed v more front back first rest r p t) (passed _ _ front' back' first' rest' s q u) alike =
      joined front front' back back' first first' rest rest' (one rules v front front' first first' r s (other_front_alike front front' back' (front_alike front _ back alike))) (one_item rules more back back' rest rest' t u) alike

pub one_outcome : OneOutcome
one_outcome rules target asked others some other r s alike = one rules target asked others some other r s alike

answers_alike : (a b : List Call) → answers_of a ≡ answers_of b → Alike a b
answers_alike [] b e = tt
answers_alike (x ∷ a) [] e = tt
answers_alike (x ∷ a) (y ∷ b) e = λ same_text. (cc, answers_alike a b cc)

pub answers_determine : AnswersDetermine
answers_determine rules target asked others some other r s e = one rules target asked others some other r s (answers_alike asked others e)

agrees_alike : (answers : Answers) (a b : List Call) → Agrees answers a → Agrees answers b → Alike a b
agrees_alike answers [] b m n = tt
agrees_alike answers (x ∷ a) [] m n = tt
agrees_alike answers (x ∷ a) (y ∷ b) m n = λ same_text. (let found : Some x.1 ≡ Some y.1 = sym m.0 ∙ (ap (get answers) same_text ∙ n.0) in cc, agrees_alike answers a b m.1 n.1)

pub one_under : OneUnder
one_under answers rules target some other r s = (one rules target r.asked s.asked some other r.resolves s.resolves (agrees_alike answers r.asked s.asked r.agrees s.agrees)).outcome
