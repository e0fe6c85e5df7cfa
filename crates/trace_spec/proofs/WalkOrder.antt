-- The order of a walk: what is asked, and which requests are put into the tables, referrer by referrer.
use Rattle.std.specs.Prelude.{◌≡◌, ℕ, zero, suc, List, [], ◌∷◌, ◌++◌, map, flat_map, slice_get, length, Option, Some}
use Rattle.std.specs.Prelude.{None, Ok}
use Rattle.std.proofs.Common.{refl, sym, ap, ◌∙◌, subst, arith, append_assoc, length-append}
use Rattle.asking_spec.specs.Askings.{outcome, questions}
use Rattle.asking_spec.proofs.AskingLemmas.{ok_parts, questions_ok}
use Rattle.trace_spec.specs.Walking.{Referrer, the_page, a_module, Opened, Rules, new_modules, followed, visited}
use Rattle.trace_spec.specs.Walking.{walked, walk}
use Rattle.trace_spec.proofs.WalkModules.{slice_there, next_visit, LeadsBy, targets_by, visited_modules}

-- puts items into tables one after another
abbrev pub all_in : {B L : Type 0} → (B → L → B) → B → List L → B
all_in put before [] = before
all_in put before (item ∷ more) = all_in put (put before item) more

module _ {M B R Q L : Type 0} {A : Q → Type 0} (answers : (question : Q) → A question) (rules : Rules M B R Q A)
    (specifiers : Referrer M → List (List ℕ)) (leads : Referrer M → List ℕ → Option M)
    (opening : Referrer M → List Q) (asking : Referrer M → List ℕ → Q) (begin : B → Referrer M → B) (put : B → L → B)
    (link : Referrer M → List ℕ → L) where
  -- what an opening and a request ask, and what they put into the tables
  pub record PutsBy : Type 0 where
    pub opens : (before : B) (referrer : Referrer M) (opened : Opened B)
        → outcome answers (rules.opens before referrer) ≡ Ok opened
        → (opened.specifiers ≡ specifiers referrer) × (opened.after ≡ begin before referrer)
        × (questions answers (rules.opens before referrer) ≡ opening referrer)
    pub follows : (before : B) (referrer : Referrer M) (specifier : List ℕ) (after : B)
        → outcome answers (rules.follows before referrer specifier) ≡ Ok after
        → (after ≡ put before (link referrer specifier))
        × (questions answers (rules.follows before referrer specifier) ≡ asking referrer specifier ∷ [])

  abbrev pub asked_by : List (Referrer M) → List Q
  asked_by visits = flat_map (λ referrer. opening referrer ++ map (asking referrer) (specifiers referrer)) visits

  -- visits are put into tables one after another
  abbrev pub visit_put : B → Referrer M → B
  visit_put before referrer = all_in put (begin before referrer) (map (link referrer) (specifiers referrer))

  pub record IsInOrder (all : B) : Type 0 where
    pub tables : all ≡ all_in visit_put rules.start (the_page ∷ map a_module (rules.modules all))
    pub asked : questions answers (walk rules) ≡ asked_by (the_page ∷ map a_module (rules.modules all))

  module _ (leads_by : LeadsBy answers rules specifiers leads) (puts : PutsBy) where
    pub record Followed (before after : B) (asked all : List Q) : Type 0 where
      pub is : after ≡ before
      pub are_asked : all ≡ asked

    pub in_order : (referrer : Referrer M) (some : List (List ℕ)) (before after : B)
        → outcome answers (followed rules before referrer some) ≡ Ok after
        → Followed (all_in put before (map (link referrer) some)) after (map (asking referrer) some)
        (questions answers (followed rules before referrer some))
    in_order referrer [] before after e = let same : before ≡ after = cc in record { is = sym same; are_asked = refl }
    in_order referrer (specifier ∷ more) before after e =
        let parts =
        ok_parts answers (rules.follows before referrer specifier)
        (λ next. followed rules next referrer more) after e in
        let one = puts.follows before referrer specifier parts.value parts.first_is in
        let rest = in_order referrer more parts.value after parts.next_is in
        record {
          is = rest.is ∙ ap (λ b. all_in put b (map (link referrer) more)) one.0;
          are_asked =
              questions_ok answers (rules.follows before referrer specifier)
              (λ next. followed rules next referrer more) parts.value parts.first_is
              ∙ (λ i. one.1 i ++ rest.are_asked i);
        }

    pub visit_in_order : (referrer : Referrer M) (before after : B)
        → outcome answers (visited rules before referrer) ≡ Ok after
        → Followed (visit_put before referrer) after (opening referrer ++ map (asking referrer) (specifiers referrer))
        (questions answers (visited rules before referrer))
    visit_in_order referrer before after e =
        let parts =
        ok_parts answers (rules.opens before referrer)
        (λ o. followed rules o.after referrer o.specifiers) after e in
        let opened = puts.opens before referrer parts.value parts.first_is in
        let rest = in_order referrer parts.value.specifiers parts.value.after after parts.next_is in
        record {
          is = rest.is ∙ (λ i. all_in put (opened.1 i) (map (link referrer) (opened.0 i)));
          are_asked =
              questions_ok answers (rules.opens before referrer)
              (λ o. followed rules o.after referrer o.specifiers) parts.value parts.first_is
              ∙ ((λ i. opened.2 i ++ rest.are_asked i)
              ∙ ap (λ rs. opening referrer ++ map (asking referrer) rs) opened.0);
        }

    record Behind (done : List M) (before all : B) (asked : List Q) : Type 0 where
      later : List M
      are_modules : rules.modules all ≡ done ++ later
      is : all ≡ all_in visit_put before (map a_module later)
      are_asked : asked ≡ asked_by (map a_module later)

    walk_behind : (room : ℕ) (before : B) (place : ℕ) (all : B) (done rest : List M)
        → outcome answers (walked rules room before place) ≡ Ok all → rules.modules before ≡ done ++ rest
        → place ≡ length done → Behind done before all (questions answers (walked rules room before place))
    walk_behind zero before place all done rest e is at = absurd (cc)
    walk_behind (suc room) before place all done [] e is at =
        let none : slice_get (rules.modules before) place ≡ None =
        ap (slice_get (rules.modules before)) at
        ∙ (ap (λ ms. slice_get ms (length done)) is ∙ slice_there done []) in
        let same : before ≡ all =
        (let P = subst (λ o. outcome answers (next_visit rules room before place o) ≡ Ok all) none e in cc) in
        record {
          later = [];
          are_modules = ap rules.modules (sym same) ∙ is;
          is = sym same;
          are_asked = ap (λ o. questions answers (next_visit rules room before place o)) none;
        }
    walk_behind (suc room) before place all done (m ∷ rest) e is at =
        let some : slice_get (rules.modules before) place ≡ Some m =
        ap (slice_get (rules.modules before)) at
        ∙ (ap (λ ms. slice_get ms (length done)) is ∙ slice_there done (m ∷ rest)) in
        let parts =
        ok_parts answers (visited rules before (a_module m)) (λ next. walked rules room next (suc place)) all
        (subst (λ o. outcome answers (next_visit rules room before place o) ≡ Ok all) some e) in
        let visit = visit_in_order (a_module m) before parts.value parts.first_is in
        let new =
        new_modules rules.same (rules.modules before)
        (targets_by answers rules specifiers leads leads_by (a_module m)) in
        let grown : rules.modules parts.value ≡ (done ++ m ∷ []) ++ (rest ++ new) =
        visited_modules answers rules specifiers leads leads_by (a_module m) before parts.value parts.first_is
        ∙ (ap (λ ms. ms ++ new) is ∙ (append_assoc done (m ∷ rest) new
        ∙ sym (append_assoc done (m ∷ []) (rest ++ new)))) in
        let behind =
        walk_behind room parts.value (suc place) all (done ++ m ∷ []) (rest ++ new) parts.next_is grown
        (omega (arith, length-append done (m ∷ []))) in
        record {
          later = m ∷ behind.later;
          are_modules = behind.are_modules ∙ append_assoc done (m ∷ []) behind.later;
          is = behind.is ∙ ap (λ b. all_in visit_put b (map a_module behind.later)) visit.is;
          are_asked =
              ap (λ o. questions answers (next_visit rules room before place o)) some
              ∙ (questions_ok answers (visited rules before (a_module m))
              (λ next. walked rules room next (suc place)) parts.value parts.first_is
              ∙ (λ i. visit.are_asked i ++ behind.are_asked i));
        }

    pub walk_in_order : (all : B) → outcome answers (walk rules) ≡ Ok all → IsInOrder all
    walk_in_order all e =
        let parts =
        ok_parts answers (visited rules rules.start the_page)
        (λ after. walked rules (suc rules.most) after 0) all e in
        let page = visit_in_order the_page rules.start parts.value parts.first_is in
        let behind =
        walk_behind (suc rules.most) parts.value 0 all [] (rules.modules parts.value) parts.next_is refl refl in
        let are : map a_module behind.later ≡ map a_module (rules.modules all) =
        ap (map a_module) (sym behind.are_modules) in
        record {
          tables =
              behind.is ∙ (ap (λ b. all_in visit_put b (map a_module behind.later)) page.is
              ∙ ap (λ visits. all_in visit_put rules.start (the_page ∷ visits)) are);
          asked = questions_ok answers (visited rules rules.start the_page)
              (λ after. walked rules (suc rules.most) after 0) parts.value parts.first_is
              ∙ (λ i. page.are_asked i ++ (behind.are_asked ∙ ap asked_by are) i);
        }
