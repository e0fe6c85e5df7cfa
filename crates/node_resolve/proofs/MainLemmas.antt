-- The first file that is there.
--     url_here                     the URL of a text in a folder
--     served_lost, served_fails, served_there, served_absent      one text
--     no_text_first, first_fails, first_here, first_later            one text after another
--     file_fails, file_found, file_behind                         the main file, by the first file of some texts
use Rattle.std.proofs.Common.{◌≡◌, ◌++◌, [], ◌∷◌, ℕ, List, true, false, Option, Some, None, Result, Ok, sym, ◌∙◌, subst}
use Rattle.std.specs.Prelude.{codes}
use Rattle.asking_spec.specs.Askings.{and_then}
use Rattle.tree_spec.specs.LookAskings.{LookAsking}
use Rattle.url_spec.specs.FileUrls.{file_text}
use Rattle.url_spec.specs.Parsing.{parse_against}
use Rattle.node_spec.specs.FileLooks.{without_host, url_in}
use Rattle.node_spec.specs.NodeAnswers.{Url, Refusal, Resolving}
use Rattle.package_lookup.specs.Answered.{State, Answered}
use Rattle.package_lookup.specs.Responses.{Response, given, fails, never, by_fault}
use Rattle.package_lookup.specs.declared.fault.LookupFault.{LookupFault}
use Rattle.package_lookup.proofs.Questions.{then_given, now_given, looked_on, asking_as}
use Rattle.node_resolve.specs.MainFiles.{shown_if, served_at, served_or, first_served}
use Rattle.node_resolve.specs.SelfNamed.{found_or}
use Rattle.node_resolve.specs.Responses.{node_fault, by_node_fault}
use Rattle.node_resolve.specs.declared.fault.NodeFault.{NodeFault}
use Rattle.node_resolve.proofs.Answering.{looked_fails}
use Rattle.node_resolve.proofs.PlaceLemmas.{serving}

pub url_here : (path base text wanted : List ℕ) (found : Option Url) → base ≡ file_text path true → text ≡ wanted
    → found ≡ without_host (parse_against base text) → url_in path wanted ≡ found
url_here path base text wanted found e t f = sym (f ∙ (λ i. without_host (parse_against (e i) (t i))))

pub served_lost : (before : State) (wanted : Option Url) → wanted ≡ None
    → Answered before (served_at wanted) (given None) before
served_lost before wanted e = subst (λ w. Answered before (served_at w) (given None) before) (sym e) (now_given before None)

module _ (before after : State) (wanted : Option Url) (url : Url) (e : wanted ≡ Some url) where
  pub served_fails : (fault : LookupFault) → Answered before (serving url) (by_fault (fails never) (fails never) fault) after
      → Answered before (served_at wanted) (by_fault (fails never) (fails never) fault) after
  served_fails fault a =
      subst (λ w. Answered before (served_at w) (by_fault (fails never) (fails never) fault) after) (sym e)
      (looked_on before after (serving url) (shown_if url) fault a)

  pub served_there : Answered before (serving url) (given true) after
      → Answered before (served_at wanted) (given (Some url)) after
  served_there a =
      subst (λ w. Answered before (served_at w) (given (Some url)) after) (sym e)
      (then_given before after after (serving url) (shown_if url) true (given (Some url)) a (now_given after (Some url)))

  pub served_absent : Answered before (serving url) (given false) after
      → Answered before (served_at wanted) (given None) after
  served_absent a =
      subst (λ w. Answered before (served_at w) (given None) after) (sym e)
      (then_given before after after (serving url) (shown_if url) false (given None) a (now_given after None))

-- ---- one text after another

pub no_text_first : (before : State) (folder : List ℕ) (texts : List (List ℕ)) → texts ≡ []
    → Answered before (first_served folder texts) (given None) before
no_text_first before folder texts e =
    subst (λ t. Answered before (first_served folder t) (given None) before) (sym e) (now_given before None)

module _ (before middle : State) (folder text : List ℕ) (more texts : List (List ℕ)) (e : texts ≡ text ∷ more) where
  abbrev here : LookAsking (Option Url)
  here = served_at (url_in folder (codes "./" ++ text))

  abbrev later : Option Url → LookAsking (Option Url)
  later found = served_or (first_served folder more) found

  pub first_fails : (fault : LookupFault) → Answered before here (by_fault (fails never) (fails never) fault) middle
      → Answered before (first_served folder texts) (by_fault (fails never) (fails never) fault) middle
  first_fails fault a =
      subst (λ t. Answered before (first_served folder t) (by_fault (fails never) (fails never) fault) middle) (sym e)
      (looked_on before middle here later fault a)

  pub first_here : (url : Url) → Answered before here (given (Some url)) middle
      → Answered before (first_served folder texts) (given (Some url)) middle
  first_here url a =
      subst (λ t. Answered before (first_served folder t) (given (Some url)) middle) (sym e)
      (then_given before middle middle here later (Some url) (given (Some url)) a (now_given middle (Some url)))

  pub first_later : (after : State) (response : Response (Option Url)) → Answered before here (given None) middle
      → Answered middle (first_served folder more) response after
      → Answered before (first_served folder texts) response after
  first_later after response a b =
      subst (λ t. Answered before (first_served folder t) response after) (sym e)
      (then_given before middle after here later None response a b)

-- ---- the main file

module _ (before middle : State) (folder : List ℕ) (texts : List (List ℕ)) (rest whole : Resolving Url)
    (is : whole ≡ and_then (first_served folder texts) (found_or rest)) where
  pub file_fails : (fault : LookupFault) (other : NodeFault) → other ≡ node_fault fault
      → Answered before (first_served folder texts) (by_fault (fails never) (fails never) fault) middle
      → Answered before whole (by_node_fault other) middle
  file_fails fault other e a =
      asking_as before middle _ whole (by_node_fault other) (sym is)
      (looked_fails before middle (first_served folder texts) (found_or rest) fault other e a)

  pub file_found : (url : Url) → Answered before (first_served folder texts) (given (Some url)) middle
      → Answered before whole (given (Ok url)) middle
  file_found url a =
      asking_as before middle _ whole (given (Ok url)) (sym is)
      (then_given before middle middle (first_served folder texts) (found_or rest) (Some url) (given (Ok url)) a
      (now_given middle (Ok url)))

  pub file_behind : (after : State) (response : Response (Result Url Refusal))
      → Answered before (first_served folder texts) (given None) middle → Answered middle rest response after
      → Answered before whole response after
  file_behind after response a b =
      asking_as before after _ whole response (sym is)
      (then_given before middle after (first_served folder texts) (found_or rest) None response a b)
