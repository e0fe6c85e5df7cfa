-- Checked over the same tree, the text of the layout has no difference.
use Rattle.std.proofs.Common.{refl, sym, ap, ◌∙◌, subst}
use Rattle.std.proofs.lemmas.Bool.{cond-true}
use Rattle.std.proofs.lemmas.Slice.Eq.{bytes_eq-Decides}
use Rattle.std.specs.Prelude.{◌≡◌, ℕ, suc, true, List, [], ◌∷◌, Result, Ok, Contains, unwrap_or}
use Rattle.url_spec.proofs.KeptUrls.{kept_urls}
use Rattle.import_map_spec.proofs.OneMap.{one_map}
use Rattle.import_map_spec.specs.ParsedMap.{ParsedMap, MapFault}
use Rattle.import_map_spec.specs.Parsing.{ParsesMap}
use Rattle.import_map_spec.specs.Resolving.{Resolved}
use Rattle.check_spec.proofs.NeedLemmas.{specifiers_agree}
use Rattle.check_spec.specs.Differences.{gets, is_url, differences, differences_from}
use Rattle.layout_spec.proofs.Contained.{contains_here, contains_there}
use Rattle.layout_spec.proofs.TextBack.{texts_read_back}
use Rattle.layout_spec.specs.PrintedMap.{map_text}
use Rattle.layout_spec.specs.Serving.{NoCapture, OfNeeds}
use Rattle.layout_spec.specs.declared.Need.{Need}
use Rattle.generator_spec.specs.Digests.{with_digests}
use Rattle.soundness.proofs.Digested.{has_digests}
use Rattle.soundness.proofs.Kept.{map_kept}
use Rattle.soundness.proofs.Leading.{need_leads}
use Rattle.soundness.proofs.Reaching.{needs_name}
use Rattle.soundness.proofs.Sound.{no_capture, of_needs}
use Rattle.soundness.specs.Soundness.{NamesUrls, NothingDiffers, WrittenMapsDifferNowhere}

served : (m : ParsedMap) (need : Need) → gets m need ≡ Resolved need.target → is_url (gets m need) need.target ≡ true
served m need e = ap (λ r. is_url r need.target) e ∙ (bytes_eq-Decides need.target need.target).1 refl

all_served : (m : ParsedMap) (number : ℕ) (needs : List Need) → ((need : Need) → Contains needs need → gets m need ≡ Resolved need.target) → differences_from m number needs ≡ []
all_served m number [] gets_them = refl
all_served m number (need ∷ more) gets_them =
    cond-true _ _ _ (served m need (gets_them need (contains_here need more)))
    ∙ all_served m (suc number) more (λ other c. gets_them other (contains_there other need more c))

-- what a need asks for is its own normalized specifier, so the need gets what that leads to
gets_target : (needs : List Need) (m : ParsedMap) → NoCapture needs m → OfNeeds needs m → ((need : Need) → Contains needs need → NamesUrls need) → (need : Need) → Contains needs need → gets m need ≡ Resolved need.target
gets_target needs m no_capture of_needs files need c =
    let asks = (files need c).asked.normal need.referrer in
    sym (specifiers_agree m need need.asked asks) ∙ need_leads needs m no_capture of_needs files need need.asked c asks

same_map : (m parsed : ParsedMap) → ◌≡◌ {A = Result ParsedMap MapFault} (Ok m) (Ok parsed) → m ≡ parsed
same_map m parsed e = cc

pub nothing_differs : NothingDiffers
nothing_differs tree config all layout parsed base traces fewest named parses =
    let files : (need : Need) → Contains all.needs need → NamesUrls need = needs_name tree config all traces in
    let m = with_digests config all layout in
    let captures : NoCapture all.needs m = no_capture tree config all traces layout fewest in
    let mapped : OfNeeds all.needs m = of_needs tree config all traces layout fewest in
    let kept = map_kept base (kept_urls.2 _ _ _ _ named) all.needs m mapped files (has_digests tree config all traces layout) in
    let read : ParsesMap base (map_text base m) (Ok parsed) =
    subst (λ text. ParsesMap base text (Ok parsed)) (ap (λ found. map_text (unwrap_or found []) m) named) parses in
    subst (λ (map : ParsedMap). differences map all.needs ≡ [])
    (same_map m parsed (one_map base (map_text base m) (Ok m) (Ok parsed) (texts_read_back base m kept) read))
    (all_served m 0 all.needs (gets_target all.needs m captures mapped files))

pub written_maps_differ_nowhere : WrittenMapsDifferNowhere
written_maps_differ_nowhere words tree map line is base parsed named parses =
    let generates = is.generates in
    nothing_differs tree is.config generates.all generates.layout parsed base generates.is_traced
    generates.is_fewest named (subst (λ (text : List ℕ). ParsesMap base text (Ok parsed)) generates.text parses)
