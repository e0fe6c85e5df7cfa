-- What holds of the tables at the end of a walk: what each step keeps, and what each request leaves.
use Rattle.std.specs.Prelude.{◌≡◌, ℕ, zero, suc, List, [], ◌∷◌, ◌++◌, slice_get, length, Option, Some, None, Ok}
use Rattle.std.specs.Prelude.{Contains}
use Rattle.std.proofs.Common.{refl, sym, ap, ◌∙◌, subst, arith, append_assoc, append-nil, length-append}
use mathlib.Core.Logic.{inl, inr}
use Rattle.std.proofs.lemmas.List.Elements.{Contains-append_left, Contains-append_right}
use Rattle.layout_spec.proofs.Contained.{contains_here, contains_there, contains_cases, contains_none}
use Rattle.asking_spec.specs.Askings.{outcome}
use Rattle.asking_spec.proofs.AskingLemmas.{ok_parts}
use Rattle.trace_spec.specs.Walking.{Referrer, the_page, a_module, Opened, Rules, new_modules, followed, visited}
use Rattle.trace_spec.specs.Walking.{walked, walk}
use Rattle.trace_spec.proofs.WalkModules.{slice_there, next_visit, LeadsBy, targets_by, visited_modules}

-- the page is visited, and a module that stands in the table
abbrev pub IsVisited : {M : Type 0} → List M → Referrer M → Type 0
IsVisited modules the_page = Unit {0}
IsVisited modules (a_module m) = Contains modules m

pub visited_still : {M : Type 0} (referrer : Referrer M) (modules more : List M) → IsVisited modules referrer
    → IsVisited (modules ++ more) referrer
visited_still the_page modules more is = tt
visited_still (a_module m) modules more is = Contains-append_left modules more m is

module _ {M B R Q : Type 0} {A : Q → Type 0} (answers : (question : Q) → A question) (rules : Rules M B R Q A)
    (specifiers : Referrer M → List (List ℕ)) (leads : Referrer M → List ℕ → Option M)
    (by : LeadsBy answers rules specifiers leads)
    (Holds : B → Type 0) (Leaves : Referrer M → List ℕ → B → Type 0) where
  -- what holds of the tables is kept; what a request leaves holds from then on
  pub record Keeps : Type 0 where
    pub starts : Holds rules.start
    pub opens : (before : B) (referrer : Referrer M) (opened : Opened B)
        → outcome answers (rules.opens before referrer) ≡ Ok opened → Holds before → Holds opened.after
    pub still : (before : B) (referrer : Referrer M) (opened : Opened B)
        → outcome answers (rules.opens before referrer) ≡ Ok opened → (other : Referrer M) (earlier : List ℕ)
        → Leaves other earlier before → Leaves other earlier opened.after
    pub follows : (before : B) (referrer : Referrer M) (specifier : List ℕ) (after : B)
        → IsVisited (rules.modules before) referrer → Contains (specifiers referrer) specifier → Holds before
        → outcome answers (rules.follows before referrer specifier) ≡ Ok after → Holds after
    pub leaves : (before : B) (referrer : Referrer M) (specifier : List ℕ) (after : B)
        → outcome answers (rules.follows before referrer specifier) ≡ Ok after → Leaves referrer specifier after
    pub stays : (before : B) (referrer : Referrer M) (specifier : List ℕ) (after : B)
        → outcome answers (rules.follows before referrer specifier) ≡ Ok after
        → (other : Referrer M) (earlier : List ℕ) → Leaves other earlier before → Leaves other earlier after

  module _ (keeps : Keeps) where
    -- what was left stays, and what holds is kept
    pub record Later (before after : B) : Type 0 where
      pub holds : Holds before → Holds after
      pub stays : (other : Referrer M) (earlier : List ℕ) → Leaves other earlier before → Leaves other earlier after

    -- these are specifiers of the referrer's requests
    abbrev pub AreRequests : Referrer M → List (List ℕ) → Type 0
    AreRequests referrer some =
        (specifier : List ℕ) → Contains some specifier → Contains (specifiers referrer) specifier

    pub followed_later : (referrer : Referrer M) (some : List (List ℕ)) (before after : B)
        → IsVisited (rules.modules before) referrer → AreRequests referrer some
        → outcome answers (followed rules before referrer some) ≡ Ok after → Later before after
    followed_later referrer [] before after is are e =
        let same : before ≡ after = cc in
        subst (Later before) same (record { holds = λ h. h; stays = λ other earlier l. l })
    followed_later referrer (specifier ∷ more) before after is are e =
        let parts =
        ok_parts answers (rules.follows before referrer specifier)
        (λ next. followed rules next referrer more) after e in
        let one = by.follows before referrer specifier parts.value parts.first_is in
        let still : IsVisited (rules.modules parts.value) referrer =
        subst (λ ms. IsVisited ms referrer) (sym one.2) (visited_still referrer (rules.modules before) _ is) in
        let rest =
        followed_later referrer more parts.value after still
        (λ s c. are s (contains_there s specifier more c)) parts.next_is in
        record {
          holds = λ h. rest.holds (keeps.follows before referrer specifier parts.value is
              (are specifier (contains_here specifier more)) h parts.first_is);
          stays = λ other earlier l. rest.stays other earlier
              (keeps.stays before referrer specifier parts.value parts.first_is other earlier l);
        }

    followed_leaves : (referrer : Referrer M) (some : List (List ℕ)) (before after : B)
        → IsVisited (rules.modules before) referrer → AreRequests referrer some
        → outcome answers (followed rules before referrer some) ≡ Ok after → (specifier : List ℕ)
        → Contains some specifier → Leaves referrer specifier after
    followed_leaves referrer [] before after is are e specifier c = absurd (contains_none specifier c)
    followed_leaves referrer (first ∷ more) before after is are e specifier c =
        let behind : AreRequests referrer more = λ s c. are s (contains_there s first more c) in
        let parts =
        ok_parts answers (rules.follows before referrer first)
        (λ next. followed rules next referrer more) after e in
        let one = by.follows before referrer first parts.value parts.first_is in
        let still : IsVisited (rules.modules parts.value) referrer =
        subst (λ ms. IsVisited ms referrer) (sym one.2) (visited_still referrer (rules.modules before) _ is) in
        elim (contains_cases specifier first more c) [
          | inl same ↦
              (followed_later referrer more parts.value after still behind parts.next_is).stays referrer specifier
              (subst (λ s. Leaves referrer s parts.value) same
              (keeps.leaves before referrer first parts.value parts.first_is))
          | inr later ↦ followed_leaves referrer more parts.value after still behind parts.next_is specifier later
        ]

    pub record Visit (before after : B) (referrer : Referrer M) : Type 0 where
      pub later : Later before after
      pub opened : (opened : Opened B) × (outcome answers (rules.opens before referrer) ≡ Ok opened)
      pub leaves : (specifier : List ℕ) → Contains (specifiers referrer) specifier → Leaves referrer specifier after

    later_then : (before middle after : B) → Later before middle → Later middle after → Later before after
    later_then before middle after one rest =
        record {
          holds = λ h. rest.holds (one.holds h);
          stays = λ other earlier l. rest.stays other earlier (one.stays other earlier l);
        }

    pub visit : (referrer : Referrer M) (before after : B) → IsVisited (rules.modules before) referrer
        → outcome answers (visited rules before referrer) ≡ Ok after → Visit before after referrer
    visit referrer before after is e =
        let parts =
        ok_parts answers (rules.opens before referrer)
        (λ opened. followed rules opened.after referrer opened.specifiers) after e in
        let opened = by.opens before referrer parts.value parts.first_is in
        let still : IsVisited (rules.modules parts.value.after) referrer =
        subst (λ ms. IsVisited ms referrer) (sym opened.1) is in
        let are : AreRequests referrer parts.value.specifiers = λ s c. subst (λ some. Contains some s) opened.0 c in
        record {
          later = later_then before parts.value.after after
              (record {
                holds = keeps.opens before referrer parts.value parts.first_is;
                stays = keeps.still before referrer parts.value parts.first_is;
              })
              (followed_later referrer parts.value.specifiers parts.value.after after still are parts.next_is);
          opened = (parts.value, parts.first_is);
          leaves =
              λ specifier c. followed_leaves referrer parts.value.specifiers parts.value.after after still are
              parts.next_is specifier (subst (λ some. Contains some specifier) (sym opened.0) c);
        }

    -- a referrer was visited over some tables, and its requests left what they leave
    pub record WasVisited (all : B) (referrer : Referrer M) : Type 0 where
      pub before : B
      pub opened : (opened : Opened B) × (outcome answers (rules.opens before referrer) ≡ Ok opened)
      pub leaves : (specifier : List ℕ) → Contains (specifiers referrer) specifier → Leaves referrer specifier all

    still_visited : (before all : B) (referrer : Referrer M) → Later before all → WasVisited before referrer
        → WasVisited all referrer
    still_visited before all referrer later was =
        record {
          before = was.before;
          opened = was.opened;
          leaves = λ specifier c. later.stays referrer specifier (was.leaves specifier c);
        }

    visit_was : (before after : B) (referrer : Referrer M) → Visit before after referrer → WasVisited after referrer
    visit_was before after referrer v = record { before = before; opened = v.opened; leaves = v.leaves }

    record Walked (before all : B) (rest : List M) : Type 0 where
      later : Later before all
      more : List M
      modules : rules.modules all ≡ rules.modules before ++ more
      each : (m : M) → Contains (rest ++ more) m → WasVisited all (a_module m)

    walk_by : (room : ℕ) (before : B) (place : ℕ) (all : B) (done rest : List M)
        → outcome answers (walked rules room before place) ≡ Ok all → rules.modules before ≡ done ++ rest
        → place ≡ length done → Walked before all rest
    walk_by zero before place all done rest e is at = absurd (cc)
    walk_by (suc room) before place all done [] e is at =
        let none : slice_get (rules.modules before) place ≡ None =
        ap (slice_get (rules.modules before)) at
        ∙ (ap (λ ms. slice_get ms (length done)) is ∙ slice_there done []) in
        let same : before ≡ all =
        (let P = subst (λ o. outcome answers (next_visit rules room before place o) ≡ Ok all) none e in cc) in
        record {
          later = subst (Later before) same (record { holds = λ h. h; stays = λ other earlier l. l });
          more = [];
          modules = ap rules.modules (sym same) ∙ sym (append-nil (rules.modules before));
          each = λ m c. absurd (contains_none m c);
        }
    walk_by (suc room) before place all done (m ∷ rest) e is at =
        let some : slice_get (rules.modules before) place ≡ Some m =
        ap (slice_get (rules.modules before)) at
        ∙ (ap (λ ms. slice_get ms (length done)) is ∙ slice_there done (m ∷ rest)) in
        let parts =
        ok_parts answers (visited rules before (a_module m)) (λ next. walked rules room next (suc place)) all
        (subst (λ o. outcome answers (next_visit rules room before place o) ≡ Ok all) some e) in
        let stands : Contains (rules.modules before) m =
        subst (λ ms. Contains ms m) (sym is) (Contains-append_right done (m ∷ rest) m (contains_here m rest)) in
        let here = visit (a_module m) before parts.value stands parts.first_is in
        let new =
        new_modules rules.same (rules.modules before)
        (targets_by answers rules specifiers leads by (a_module m)) in
        let added : rules.modules parts.value ≡ rules.modules before ++ new =
        visited_modules answers rules specifiers leads by (a_module m) before parts.value parts.first_is in
        let grown : rules.modules parts.value ≡ (done ++ m ∷ []) ++ (rest ++ new) =
        added ∙ (ap (λ ms. ms ++ new) is ∙ (append_assoc done (m ∷ rest) new
        ∙ sym (append_assoc done (m ∷ []) (rest ++ new)))) in
        let behind =
        walk_by room parts.value (suc place) all (done ++ m ∷ []) (rest ++ new) parts.next_is grown
        (omega (arith, length-append done (m ∷ []))) in
        record {
          later = later_then before parts.value all here.later behind.later;
          more = new ++ behind.more;
          modules =
              behind.modules ∙ (ap (λ ms. ms ++ behind.more) added
              ∙ append_assoc (rules.modules before) new behind.more);
          each = λ n c. elim (contains_cases n m (rest ++ (new ++ behind.more)) c) [
            | inl same ↦
                subst (λ x. WasVisited all (a_module x)) same
                (still_visited parts.value all (a_module m) behind.later
                (visit_was before parts.value (a_module m) here))
            | inr other ↦ behind.each n (subst (λ ms. Contains ms n) (sym (append_assoc rest new behind.more)) other)
          ];
        }

    pub record AtEnd (all : B) : Type 0 where
      pub holds : Holds all
      pub page : WasVisited all the_page
      pub each : (m : M) → Contains (rules.modules all) m → WasVisited all (a_module m)

    pub at_end : (all : B) → outcome answers (walk rules) ≡ Ok all → AtEnd all
    at_end all e =
        let parts =
        ok_parts answers (visited rules rules.start the_page)
        (λ after. walked rules (suc rules.most) after 0) all e in
        let page = visit the_page rules.start parts.value tt parts.first_is in
        let walk = walk_by (suc rules.most) parts.value 0 all [] (rules.modules parts.value) parts.next_is refl refl in
        record {
          holds = walk.later.holds (page.later.holds keeps.starts);
          page = still_visited parts.value all the_page walk.later (visit_was rules.start parts.value the_page page);
          each = λ m c. walk.each m (subst (λ ms. Contains ms m) walk.modules c);
        }
