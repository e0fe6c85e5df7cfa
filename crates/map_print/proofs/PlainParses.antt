-- What the URL parser gives below a plain folder, without a base and against a page of the folder.
use Rattle.std.proofs.Common.{◌≡◌, ◌≢◌, ◌<◌, ◌≤◌, ◌⊎◌, ◌-◌, ◌+◌, ℕ, Bool, true, false, cond, not, ◌&&◌, ◌||◌, ◌==◌, List, [], ◌∷◌, ◌++◌, All, take, drop, length, reverse, Option, Some, None, Ok, Err, refl, sym, ap, ◌∙◌, subst, ⊎_elim, arith, inl, inr, append-nil, append_assoc, take_at, drop_at, lit<, IsAscii}
use Rattle.std.specs.Prelude.{codes, is_some, unwrap_or, filter, bytes_eq}
use Rattle.std.specs.List.{concat, prefix_len, suffix_len}
use Rattle.std.proofs.lemmas.Bool.{cases_Bool, cases_eq, cond-true, cond-false, ne_eqb, true≢false, and_parts, and_left}
use Rattle.std.proofs.lemmas.List.{reverse-append, append_cancel_right}
use Rattle.std.proofs.lemmas.List.Elements.{All-nil, All-cons, All-head, All-tail, All-append, All-weaker}
use Rattle.url.proofs.InputLemmas.{Passes, IsNot, StopsAt, filter_all, split_once_none, prefix_len_at, rsplit_once_at, is_empty_nonempty}
use Rattle.url.proofs.PathLemmas.{parse_path_more}
use Rattle.url.proofs.RoundTrip.{split_own_scheme}
use Rattle.url.specs.Host.{parse_host}
use Rattle.url.specs.Input.{is_empty, trim_start, trim_end, trim_c0_control_and_space, is_c0_control_or_space, strip_tabs_and_new_lines, is_tab_or_new_line, split_once, rsplit_once, lowercase, when}
use Rattle.url.specs.Parser.{Parsed, and_then, parse_url, parse_by_scheme, parse_without_scheme, split_scheme, parse_parts, parse_all, parse_body, parse_not_file, parse_relative, parse_authority, parse_port, split_port, lacks_host, after_double_slash, skip_slashes, with_path, with_tail, before_tail, leading_slashes}
use Rattle.url.specs.Parts.{Parts, kind_of, pieces, serialize, needs_guard}
use Rattle.url.specs.Path.{parse_path, parse_path_start, parse_segments, push_segment, dot_count, shorten_path, segment_len}
use Rattle.url.specs.Scheme.{IsScheme, scheme_len, scheme_type, is_slash, is_special, is_file}
use Rattle.url.specs.declared.scheme.SchemeType.{SchemeType}
use Rattle.url.specs.declared.scheme.SchemeType.TheVariants.{SpecialNotFile}
use Rattle.url_spec.proofs.ParserParts.{Gives, either, any_gives, gives_at}
use Rattle.url_spec.specs.Parsing.{text_of}
use Rattle.map_print.proofs.PlainPaths.{path_implies, path_differs, path_no_slash, plain_path, path_bytes}
use Rattle.map_print.specs.PlainRests.{is_path_byte, is_plain_rest}

abbrev ArePath : List ℕ → Type 0
ArePath text = All (Passes is_path_byte) text

-- ---- nothing is taken off a text of path bytes

visible : (b : ℕ) → is_path_byte b ≡ true → is_c0_control_or_space b ≡ false
visible b is = from (is_c0_control_or_space b) (path_implies (λ x. not (is_c0_control_or_space x)) refl b is)
  where
    from : (x : Bool) → not x ≡ true → x ≡ false
    from false e = refl
    from true e = sym e

no_prefix : (text : List ℕ) → ArePath text → prefix_len is_c0_control_or_space text ≡ 0
no_prefix [] all = refl
no_prefix (b ∷ text) all = cond-false _ _ _ (visible b (All-head (Passes is_path_byte) b text all))

reversed : (text : List ℕ) → ArePath text → ArePath (reverse text)
reversed [] all = all
reversed (b ∷ text) all =
    subst ArePath (sym (reverse-append (b ∷ []) text))
    (All-append (Passes is_path_byte) (reverse text) (b ∷ []) (reversed text (All-tail (Passes is_path_byte) b text all))
    (All-cons (Passes is_path_byte) b [] (All-head (Passes is_path_byte) b text all) (All-nil (Passes is_path_byte))))

trimmed : (text : List ℕ) → ArePath text → trim_c0_control_and_space text ≡ text
unfolding trim_c0_control_and_space
trimmed text all =
    ap (λ n. trim_end is_c0_control_or_space (drop n text)) (no_prefix text all)
    ∙ (ap (λ n. take (length text - n) text) (no_prefix (reverse text) (reversed text all))
    ∙ take_whole text)
  where
    take_whole : (xs : List ℕ) → take (length xs - 0) xs ≡ xs
    take_whole xs = ap (λ n. take n xs) (omega arith) ∙ (ap (take (length xs)) (sym (append-nil xs)) ∙ take_at xs [] (length xs) refl)

stripped : (text : List ℕ) → ArePath text → strip_tabs_and_new_lines text ≡ text
unfolding strip_tabs_and_new_lines
stripped text all =
    filter_all (λ b. not (is_tab_or_new_line b)) text
    (All-weaker (Passes is_path_byte) (Passes (λ b. not (is_tab_or_new_line b))) (path_implies (λ b. not (is_tab_or_new_line b)) refl) text all)

abbrev after_question : Option Parts → Option (List ℕ) → List ℕ × Option (List ℕ) → Parsed Parts
after_question base fragment question = parse_by_scheme (split_scheme question.0) base question.0 question.1 fragment

abbrev after_hash : Option Parts → List ℕ × Option (List ℕ) → Parsed Parts
after_hash base hash = after_question base hash.1 (split_once 63 hash.0)

parse_plain : (base : Option Parts) (text : List ℕ) → ArePath text → parse_url base text ≡ parse_by_scheme (split_scheme text) base text None None
unfolding parse_url
parse_plain base text all =
    ap (λ clean. after_hash base (split_once 35 clean)) (ap strip_tabs_and_new_lines (trimmed text all) ∙ stripped text all)
    ∙ (ap (after_hash base) (split_once_none 35 text (All-weaker (Passes is_path_byte) (IsNot 35) (path_differs 35 refl) text all))
    ∙ ap (after_question base None) (split_once_none 63 text (All-weaker (Passes is_path_byte) (IsNot 63) (path_differs 63 refl) text all)))

-- ---- a URL without query and fragment, by its head and its path

abbrev pub at_path : Parts → List ℕ → Parts
at_path head path = with_tail (with_path head path) None None

abbrev pub done : Parts → Parts
done url = with_tail (before_tail url None None) None None

pub done_is : (url : Parts) → kind_of url ≡ SpecialNotFile → done url ≡ with_tail url None None
done_is url kind = ap (λ found. with_tail found None None) (cond-false _ _ _ (and_left _ _ (ap (λ k. not (is_special k)) kind)))

pub record IsHead (scheme : List ℕ) (head : Parts) : Type 0 where
  pub scheme_is : head.scheme ≡ scheme
  pub host : is_some head.host ≡ true

pub authority_gives : (scheme bytes : List ℕ) → Gives (IsHead scheme) (parse_authority scheme bytes)
unfolding parse_authority
authority_gives scheme bytes =
    let at = rsplit_once 64 bytes in
    let host_port = split_port at.1 in
    either (lacks_host at.0 host_port.0 host_port.1) (λ _. record { holds = tt })
    (λ _. any_gives (parse_host (scheme_type scheme) host_port.0) (λ host. any_gives (parse_port scheme (unwrap_or host_port.1 [])) (λ port. record { holds = record { scheme_is = refl; host = refl } })))

-- ---- its text

abbrev pub heads : Parts → List (List ℕ)
heads head = take 9 (pieces head)

concat_append : (xs ys : List (List ℕ)) → concat (xs ++ ys) ≡ concat xs ++ concat ys
concat_append [] ys = refl
concat_append (x ∷ xs) ys = ap (λ (text : List ℕ). x ++ text) (concat_append xs ys) ∙ sym (append_assoc x (concat xs) (concat ys))

no_guard : (head : Parts) (path : List ℕ) → is_some head.host ≡ true → needs_guard (at_path head path) ≡ false
no_guard head path host = and_left _ _ (and_left _ _ (ap not host))

pub text_at : (head : Parts) (path : List ℕ) → is_some head.host ≡ true → text_of (at_path head path) ≡ concat (heads head) ++ path
unfolding text_of
text_at head path host =
    concat_append (heads head) (drop 9 (pieces (at_path head path)))
    ∙ (ap (λ (guard : Bool). concat (heads head) ++ (when guard (codes "/.") ++ (path ++ []))) (no_guard head path host)
    ∙ ap (λ (text : List ℕ). concat (heads head) ++ text) (append-nil path))

-- ---- without a base

-- the folders are a path of their own
pub record Read (kind : SchemeType) (path folders : List ℕ) : Type 0 where
  pub state : List ℕ
  pub reads : (rest : List ℕ) → parse_path kind path (folders ++ rest) ≡ parse_path kind state rest

record ReadFrom (kind : SchemeType) (path segment folders : List ℕ) : Type 0 where
  state : List ℕ
  reads : (rest : List ℕ) → parse_segments kind path segment (folders ++ rest) ≡ parse_segments kind state [] rest

read_from : (kind : SchemeType) (path segment front : List ℕ) → ReadFrom kind path segment (front ++ 47 ∷ [])
unfolding parse_segments
read_from kind path segment [] = record { state = push_segment kind path segment false; reads = λ rest. refl }
read_from kind path segment (b ∷ front) =
    ⊎_elim
    (λ slash. let later = read_from kind (push_segment kind path segment false) [] front in
    record { state = later.state; reads = λ rest. cond-true _ _ _ slash ∙ later.reads rest })
    (λ other. let later = read_from kind path (segment ++ b ∷ []) front in
    record { state = later.state; reads = λ rest. cond-false _ _ _ other ∙ later.reads rest })
    (cases_Bool (is_slash kind b))

-- a text that ends in `/`: what stands before its first one, and what behind
pub record Folders (text : List ℕ) : Type 0 where
  pub host : List ℕ
  pub folders : List ℕ
  pub split : text ≡ host ++ 47 ∷ folders
  pub no_slash : All (IsNot 47) host
  pub read : Read SpecialNotFile [] folders

pub folders_of : (front : List ℕ) → Folders (front ++ 47 ∷ [])
folders_of [] = record { host = []; folders = []; split = refl; no_slash = All-nil (IsNot 47); read = record { state = []; reads = λ rest. refl } }
folders_of (b ∷ front) =
    ⊎_elim
    (λ slash. let r = read_from SpecialNotFile [] [] front in
    record { host = []; folders = front ++ 47 ∷ []; split = ap (λ n. n ∷ (front ++ 47 ∷ [])) slash; no_slash = All-nil (IsNot 47); read = record { state = r.state; reads = r.reads } })
    (λ other. let later = folders_of front in
    record { host = b ∷ later.host; folders = later.folders; split = ap (λ xs. b ∷ xs) later.split; no_slash = All-cons (IsNot 47) b later.host other later.no_slash; read = later.read })
    (cases_eq b 47)

then_then : {A B C : Type 0} (r : Parsed A) (f : A → Parsed B) (g : B → Parsed C) → and_then (and_then r f) g ≡ and_then r (λ x. and_then (f x) g)
then_then (Ok x) f g = refl
then_then (Err e) f g = refl

start_at : (path : List ℕ) → parse_path_start SpecialNotFile [] (47 ∷ path) ≡ parse_path SpecialNotFile [] path
unfolding parse_path_start
start_at path = rw (is_empty_nonempty (47 ∷ path) (omega arith)) refl

slashes_skipped : (host rest : List ℕ) → StopsAt (λ b. b == 47 || b == 92) (host ++ rest) → skip_slashes (47 ∷ 47 ∷ (host ++ rest)) ≡ host ++ rest
slashes_skipped host rest stops =
    ap (λ n. drop n (47 ∷ 47 ∷ (host ++ rest)))
    (prefix_len_at (λ b. b == 47 || b == 92) (47 ∷ 47 ∷ []) (host ++ rest)
    (All-cons (Passes (λ b. b == 47 || b == 92)) 47 (47 ∷ []) refl (All-cons (Passes (λ b. b == 47 || b == 92)) 47 [] refl (All-nil (Passes (λ b. b == 47 || b == 92))))) stops)

pub record IsWeb (scheme : List ℕ) : Type 0 where
  pub valid : IsScheme scheme
  pub kind : scheme_type scheme ≡ SpecialNotFile

module _ (scheme : List ℕ) (web : IsWeb scheme) where
  authority_read : (host path : List ℕ) → All (IsNot 47) host → ArePath host → after_double_slash scheme (host ++ 47 ∷ path) ≡ and_then (parse_authority scheme host) (λ head. Ok (with_path head (parse_path SpecialNotFile [] path)))
  unfolding after_double_slash
  authority_read host path none all =
      let test : ℕ → Bool = λ b. not (is_slash SpecialNotFile b) in
      let len : segment_len SpecialNotFile (host ++ 47 ∷ path) ≡ length host = prefix_len_at test host (47 ∷ path) (passing host none all) refl in
      ap (λ kind. and_then (parse_authority scheme (take (segment_len kind (host ++ 47 ∷ path)) (host ++ 47 ∷ path))) (λ head. Ok (with_path head (parse_path_start kind [] (drop (segment_len kind (host ++ 47 ∷ path)) (host ++ 47 ∷ path)))))) web.kind
      ∙ (ap (λ n. and_then (parse_authority scheme (take n (host ++ 47 ∷ path))) (λ head. Ok (with_path head (parse_path_start SpecialNotFile [] (drop n (host ++ 47 ∷ path)))))) len
      ∙ (ap (λ (xs : List ℕ). and_then (parse_authority scheme xs) (λ head. Ok (with_path head (parse_path_start SpecialNotFile [] (drop (length host) (host ++ 47 ∷ path)))))) (take_at host (47 ∷ path) (length host) refl)
      ∙ ap (λ (p : List ℕ). and_then (parse_authority scheme host) (λ head. Ok (with_path head p))) (ap (parse_path_start SpecialNotFile []) (drop_at host (47 ∷ path) (length host) refl) ∙ start_at path)))
    where
      passing : (host : List ℕ) → All (IsNot 47) host → ArePath host → All (Passes (λ b. not (is_slash SpecialNotFile b))) host
      passing [] none all = All-nil (Passes (λ b. not (is_slash SpecialNotFile b)))
      passing (b ∷ host) none all =
          All-cons (Passes (λ b. not (is_slash SpecialNotFile b))) b host
          (ap not (path_no_slash SpecialNotFile b (All-head (IsNot 47) b host none) (All-head (Passes is_path_byte) b host all)))
          (passing host (All-tail (IsNot 47) b host none) (All-tail (Passes is_path_byte) b host all))

  -- a host and a path, behind `//`
  pub body_read : (c : ℕ) (host path : List ℕ) → All (IsNot 47) (c ∷ host) → ArePath (c ∷ host) → parse_body scheme None (47 ∷ 47 ∷ ((c ∷ host) ++ 47 ∷ path)) ≡ and_then (parse_authority scheme (c ∷ host)) (λ head. Ok (with_path head (parse_path SpecialNotFile [] path)))
  unfolding parse_body
  body_read c host path none all =
      let stops : StopsAt (λ b. b == 47 || b == 92) ((c ∷ host) ++ 47 ∷ path) = rw (ne_eqb c 47 (All-head (IsNot 47) c host none), ne_eqb c 92 (path_differs 92 refl c (All-head (Passes is_path_byte) c host all))) refl in
      cond-false _ _ _ (ap is_file web.kind)
      ∙ (cond-true _ _ _ (ap is_special web.kind)
      ∙ (ap (after_double_slash scheme) (slashes_skipped (c ∷ host) (47 ∷ path) stops)
      ∙ authority_read (c ∷ host) path none all))

  -- the whole text of path bytes
  pub whole_read : (c : ℕ) (host path : List ℕ) → All (IsNot 47) (c ∷ host) → ArePath (c ∷ host) → ArePath (scheme ++ 58 ∷ 47 ∷ 47 ∷ ((c ∷ host) ++ 47 ∷ path)) → parse_url None (scheme ++ 58 ∷ 47 ∷ 47 ∷ ((c ∷ host) ++ 47 ∷ path)) ≡ and_then (parse_authority scheme (c ∷ host)) (λ head. Ok (done (with_path head (parse_path SpecialNotFile [] path))))
  unfolding parse_parts
  whole_read c host path none all whole =
      let body : List ℕ = 47 ∷ 47 ∷ ((c ∷ host) ++ 47 ∷ path) in
      parse_plain None (scheme ++ 58 ∷ body) whole
      ∙ (ap (λ split. parse_by_scheme split None (scheme ++ 58 ∷ body) None None) (split_own_scheme scheme body web.valid)
      ∙ (ap (λ (s : List ℕ). and_then (parse_body s None body) (λ url. Ok (done url))) web.valid.lower
      ∙ (ap (λ (r : Parsed Parts). and_then r (λ url. Ok (done url))) (body_read c host path none all)
      ∙ then_then (parse_authority scheme (c ∷ host)) (λ head. Ok (with_path head (parse_path SpecialNotFile [] path))) (λ url. Ok (done url)))))

-- ---- against a page of the folder

no_scheme : (rest : List ℕ) → split_scheme (46 ∷ rest) ≡ None
unfolding split_scheme scheme_len
no_scheme rest = refl

shortened : (kind : SchemeType) (state name : List ℕ) → kind ≡ SpecialNotFile → All (IsNot 47) name → shorten_path kind (state ++ 47 ∷ name) ≡ state
unfolding shorten_path
shortened kind state name web none =
    cond-false _ _ _ (and_left _ _ (and_left _ _ (ap is_file web))) ∙ ap (λ (r : Option (List ℕ) × List ℕ). unwrap_or r.0 []) (rsplit_once_at 47 state name none)

dot_passed : (path rest : List ℕ) → parse_path SpecialNotFile path (46 ∷ 47 ∷ rest) ≡ parse_path SpecialNotFile path rest
unfolding push_segment dot_count
dot_passed path rest =
    parse_path_more SpecialNotFile path (46 ∷ []) 47 rest (All-cons (λ b. is_slash SpecialNotFile b ≡ false) 46 [] refl (All-nil (λ b. is_slash SpecialNotFile b ≡ false))) refl
    ∙ ap (λ p. parse_path SpecialNotFile p rest) (append-nil path)

relative_is : (base : Parts) (rest : List ℕ) → parse_relative base (46 ∷ 47 ∷ rest) ≡ Ok (at_path base (parse_path (kind_of base) (shorten_path (kind_of base) base.path) (46 ∷ 47 ∷ rest)))
unfolding parse_relative leading_slashes
relative_is base rest = refl

module _ (scheme : List ℕ) (web : IsWeb scheme) (head : Parts) (is_head : IsHead scheme head) (state name : List ℕ) (no_slash : All (IsNot 47) name) where
  abbrev page : Parts
  page = at_path head (state ++ 47 ∷ name)

  kind : scheme_type head.scheme ≡ SpecialNotFile
  kind = ap scheme_type is_head.scheme_is ∙ web.kind

  path_below : (rest : List ℕ) → is_plain_rest rest ≡ true → parse_path (kind_of page) (shorten_path (kind_of page) page.path) (46 ∷ 47 ∷ rest) ≡ state ++ 47 ∷ rest
  path_below rest plain =
      ap (λ path. parse_path (scheme_type head.scheme) path (46 ∷ 47 ∷ rest)) (shortened (scheme_type head.scheme) state name kind no_slash)
      ∙ (ap (λ k. parse_path k state (46 ∷ 47 ∷ rest)) kind ∙ (dot_passed state rest ∙ plain_path SpecialNotFile state rest refl plain))

  pub below_page : (rest : List ℕ) → is_plain_rest rest ≡ true → parse_url (Some page) (46 ∷ 47 ∷ rest) ≡ Ok (at_path head (state ++ 47 ∷ rest))
  unfolding parse_parts parse_body
  below_page rest plain =
      let body : List ℕ = 46 ∷ 47 ∷ rest in
      let all : ArePath body = All-cons (Passes is_path_byte) 46 (47 ∷ rest) refl (All-cons (Passes is_path_byte) 47 rest refl (path_bytes rest plain)) in
      parse_plain (Some page) body all
      ∙ (ap (λ split. parse_by_scheme split (Some page) body None None) (no_scheme (47 ∷ rest))
      ∙ (cond-false _ _ _ (and_left _ _ (and_left _ _ (ap not is_head.host)))
      ∙ (cond-false _ _ _ (is_empty_nonempty body (omega arith))
      ∙ (ap (λ (r : Parsed Parts). and_then r (λ url. Ok (done url))) (cond-false _ _ _ (ap is_file kind) ∙ relative_is page rest)
      ∙ (ap Ok (done_is (at_path page (parse_path (kind_of page) (shorten_path (kind_of page) page.path) body)) kind)
      ∙ ap (λ path. Ok (at_path head path)) (path_below rest plain))))))
