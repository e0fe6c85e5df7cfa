-- The tests of paths and of what is served decide.
use Rattle.std.proofs.Common.{◌≡◌, not, ℕ, true, false, List, ◌++◌, length, drop, sym, ap, ◌∙◌, subst}
use Rattle.std.specs.Prelude.{codes, flat_map}
use Rattle.std.proofs.lemmas.Bool.{and_parts, not-true, and_from}
use Rattle.std.proofs.lemmas.Str.{IsUtf8-from_is_utf8, is_utf8-from_IsUtf8}
use Rattle.std.proofs.lemmas.Slice.Eq.{bytes_eq-Decides}
use Rattle.std.proofs.Math.Seq.{drop-append_seam}
use Rattle.url_spec.specs.Suffixes.{before_suffix}
use Rattle.url_spec.specs.ServedPaths.{holds_escape, segments, read_segment, IsServed}
use Rattle.url_spec.specs.PathTests.{is_served}
use Rattle.url_spec.proofs.PathDecisions.{path_by_test, test_by_path}

pub served_by_test : (base url path : List ℕ) → is_served base url path ≡ true → IsServed base url path
served_by_test base url path e =
    let rest = drop (length base) (before_suffix url) in
    let outer = and_parts _ _ e in
    let third = and_parts _ _ outer.1 in
    let second = and_parts _ _ third.0 in
    let first = and_parts _ _ second.0 in
    record {
      rest = rest;
      below = (bytes_eq-Decides _ _).0 outer.0;
      no_slash = not-true _ first.0;
      spelled = (bytes_eq-Decides _ _).0 first.1;
      utf8 = IsUtf8-from_is_utf8 path second.1;
      is_path = path_by_test path third.1;
    }

pub test_by_served : (base url path : List ℕ) → IsServed base url path → is_served base url path ≡ true
test_by_served base url path served =
    let rest = drop (length base) (before_suffix url) in
    let is_rest : rest ≡ served.rest = ap (drop (length base)) served.below ∙ drop-append_seam base served.rest in
    let below : before_suffix url ≡ base ++ rest = served.below ∙ ap (λ r. base ++ r) (sym is_rest) in
    let no_slash : holds_escape (codes "%2f") rest ≡ false = subst (λ r. holds_escape (codes "%2f") r ≡ false) (sym is_rest) served.no_slash in
    let spelled : path ≡ flat_map read_segment (segments rest) = served.spelled ∙ ap (λ r. flat_map read_segment (segments r)) (sym is_rest) in
    and_from _ _ ((bytes_eq-Decides _ _).1 below)
    (and_from _ _ (and_from _ _ (and_from _ _ (ap not no_slash) ((bytes_eq-Decides _ _).1 spelled)) (is_utf8-from_IsUtf8 path served.utf8)) (test_by_path path served.is_path))
