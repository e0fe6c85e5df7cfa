-- The worked examples of resolution.
use Rattle.tree_spec.proofs.ByteLists.{texts_differ}
use Rattle.std.proofs.Common.{refl, arith}
use Rattle.std.proofs.lemmas.Bool.{and_parts, eqb-false, not-true}
use Rattle.std.proofs.lemmas.List.Elements.{All-nil, All-cons}
use Rattle.std.proofs.lemmas.Str.{IsUtf8-from_is_utf8}
use Rattle.std.specs.Char.{encode_utf8}
use Rattle.std.specs.Prelude.{◌&&◌, ◌==◌, not, ℕ, Bool, true, List, [], ◌∷◌, ◌≡◌, ◌≢◌, All, false, bytes_eq, codes, ◌≤◌, length, ◌++◌, Some}
use Rattle.std.specs.Str.{is_utf8, chars}
use Rattle.percent_encoding.specs.Percent.{percent_encode_byte, percent_decode}
use Rattle.url.proofs.OnLiterals.{url_on_literals}
use Rattle.tree_spec.specs.Paths.{IsSegment, HasDepth, root, child, IsPath}
use Rattle.tree_spec.specs.Trees.{Tree}
use Rattle.url_spec.specs.FileUrls.{escapes_separator, spelled_path, NamesPath, names_host, file_text, url_path}
use Rattle.url_spec.specs.Parsing.{text_of, parse_alone, parse_against}
use Rattle.url_spec.specs.ServedPaths.{holds_escape}
use Rattle.url_spec.specs.Specifiers.{is_relative}
use Rattle.url_spec.specs.WebNames.{escaped}
use Rattle.node_spec.specs.Resolution.{Answer, joined_url, Judges, ResolvesRelative}
use Rattle.node_spec.specs.Resolution.Joins.{joined, other_host}
use Rattle.node_spec.specs.Resolution.Judges.{file, separator, folder, absent, no_folder}
use Rattle.node_spec.specs.Resolution.ResolvesRelative.{relative}
use Rattle.node_spec.specs.WorkedExamples.{main, FileExamples, RefusedExamples, WorkedExamples}

abbrev has_no_mark : List ℕ → Bool
has_no_mark [] = true
has_no_mark (b ∷ name) = (not (b == 47) && not (b == 0)) && has_no_mark name

no_marks : (name : List ℕ) → has_no_mark name ≡ true → All (λ b. b ≢ 47) name × All (λ b. b ≢ 0) name
no_marks [] e = (All-nil _, All-nil _)
no_marks (b ∷ name) e =
    let parts = and_parts (not (b == 47) && not (b == 0)) (has_no_mark name) e in
    let first = and_parts (not (b == 47)) (not (b == 0)) parts.0 in
    let rest = no_marks name parts.1 in
    (All-cons (λ x. x ≢ 47) b name (eqb-false b 47 (not-true _ first.0)) rest.0, All-cons (λ x. x ≢ 0) b name (eqb-false b 0 (not-true _ first.1)) rest.1)

segment : (name : List ℕ) → has_no_mark name ≡ true → bytes_eq name [] ≡ false → bytes_eq name (codes ".") ≡ false → bytes_eq name (codes "..") ≡ false → IsSegment name
segment name m e h u = let marks = no_marks name m in record { nonempty = texts_differ _ _ e; no_slash = marks.0; no_nul = marks.1; not_here = texts_differ _ _ h; not_up = texts_differ _ _ u }

below_root : (name : List ℕ) → IsSegment name → HasDepth 1 (47 ∷ name)
below_root name s = child 0 1 (codes "/") name (47 ∷ name) (root (codes "/") refl) s refl refl

in_root : (name : List ℕ) → IsSegment name → length name ≤ 1000 → IsPath (47 ∷ name)
in_root name s l = record { depth = 1; segments = below_root name s; few = omega arith; short = omega arith }

in_a : (name : List ℕ) → IsSegment name → length name ≤ 1000 → IsPath (codes "/a/" ++ name)
in_a name s l = record { depth = 2; segments = child 1 2 (codes "/a") name (codes "/a/" ++ name) (below_root (codes "a") (segment _ refl refl refl refl)) s refl refl; few = omega arith; short = omega arith }

b_file : IsPath (codes "/a/b.mjs")
b_file = in_a (codes "b.mjs") (segment _ refl refl refl refl) (omega arith)

c_file : IsPath (codes "/c.mjs")
c_file = in_root (codes "c.mjs") (segment _ refl refl refl refl) (omega arith)

c_folder : IsPath (codes "/a/c")
c_folder = in_a (codes "c") (segment _ refl refl refl refl) (omega arith)

-- ---- the answers

named : (text path : List ℕ) → escapes_separator text ≡ false → path ≡ spelled_path text → is_utf8 path ≡ true → IsPath path → NamesPath text path
named text path s e u is = record { no_separator = s; spelled = e; utf8 = IsUtf8-from_is_utf8 path u; is_path = is }

joined_to_main : (tree : Tree) (specifier url : List ℕ) (answer : Answer) → is_relative specifier ≡ true → joined_url main specifier ≡ Some url → names_host url ≡ false → Judges tree url answer → ResolvesRelative tree main specifier answer
joined_to_main tree specifier url answer r e h judged = relative answer r (joined url answer e h judged)

file_examples : FileExamples
unfolding is_utf8 chars encode_utf8 file_text escaped holds_escape spelled_path names_host url_path percent_encode_byte percent_decode parse_alone parse_against text_of url_on_literals
file_examples = record {
  beside = λ bytes tree e. joined_to_main tree _ (codes "file:///a/b.mjs") _ refl refl refl (file (codes "/a/b.mjs") bytes (named _ _ refl refl refl b_file) e refl);
  above = λ bytes tree e. joined_to_main tree _ (codes "file:///c.mjs") _ refl refl refl (file (codes "/c.mjs") bytes (named _ _ refl refl refl c_file) e refl);
  from_root = λ bytes tree e. joined_to_main tree _ (codes "file:///c.mjs") _ refl refl refl (file (codes "/c.mjs") bytes (named _ _ refl refl refl c_file) e refl);
  with_suffix = λ bytes tree e. joined_to_main tree _ (codes "file:///a/b.mjs?q#f") _ refl refl refl (file (codes "/a/b.mjs") bytes (named _ _ refl refl refl b_file) e refl);
  with_escape = λ bytes tree e. joined_to_main tree _ (codes "file:///a/%62.mjs") _ refl refl refl (file (codes "/a/b.mjs") bytes (named _ _ refl refl refl b_file) e refl);
}

refused_examples : RefusedExamples
unfolding is_utf8 chars encode_utf8 file_text escaped holds_escape spelled_path names_host url_path percent_encode_byte percent_decode parse_alone parse_against text_of url_on_literals
refused_examples = record {
  a_folder = λ tree e. joined_to_main tree _ (codes "file:///a/c") _ refl refl refl (folder (codes "/a/c") (named _ _ refl refl refl c_folder) e);
  a_folder_with_slash = λ tree e. joined_to_main tree _ (codes "file:///a/c/") _ refl refl refl (folder (codes "/a/c") (named _ _ refl refl refl c_folder) e);
  a_file_with_slash = λ bytes tree e. joined_to_main tree _ (codes "file:///a/b.mjs/") _ refl refl refl (no_folder (codes "/a/b.mjs") bytes (named _ _ refl refl refl b_file) e refl);
  missing = λ tree e. joined_to_main tree _ (codes "file:///a/b.mjs") _ refl refl refl (absent (codes "/a/b.mjs") (named _ _ refl refl refl b_file) e);
  escaped_slash = λ tree. joined_to_main tree _ (codes "file:///a/b%2Fc.mjs") _ refl refl refl (separator refl);
  host = λ tree. relative _ refl (other_host (codes "file://h/c.mjs") refl refl);
}

pub worked_examples : WorkedExamples
worked_examples = (file_examples, refused_examples)
