-- A text that leads to a path is joined to a file URL without a parse.
use Rattle.std.proofs.Common.{◌≡◌, ◌≢◌, ◌<◌, ◌≤◌, ◌∷◌, ◌++◌, [], ℕ, List, Bool, true, false, Option, Some, None, refl, sym, ap, ◌∙◌, subst, All, arith, length, append_assoc, append-nil, ⊎_elim, cond}
use Rattle.std.specs.Prelude.{codes, not, Ok, unwrap_or, bytes_eq}
use Rattle.std.specs.List.{list_all}
use Rattle.std.specs.Result.{result_ok}
use Rattle.std.proofs.lemmas.Bool.{cond-true, cond-false, ne_eqb, cases_Bool, and_left}
use Rattle.std.proofs.lemmas.Bool.Decides.{nat_tests}
use Rattle.std.proofs.Math.Bool.{and-false}
use Rattle.std.proofs.lemmas.List.{append_cancel_right, length-append}
use Rattle.std.proofs.lemmas.List.Elements.{All-nil, All-cons, All-head, All-tail, All-append, All-weaker}
use Rattle.percent_encoding.proofs.PercentLemmas.{IsEscapeByte}
use Rattle.percent_encoding.specs.Percent.{percent_encode}
use Rattle.tree_spec.specs.Paths.{IsPath, IsParent, IsSegment, HasDepth, joined, root, child}
use Rattle.tree_spec.proofs.ByteLists.{other_text}
use Rattle.tree_spec.proofs.Fronts.{all_front}
use Rattle.tree_spec.proofs.PathParts.{front_of}
use Rattle.url.proofs.InputLemmas.{Passes, IsNot, rsplit_once_at, is_empty_nonempty}
use Rattle.url.proofs.PathLemmas.{parse_path_more}
use Rattle.url.specs.declared.scheme.SchemeType.TheVariants.{File}
use Rattle.url.specs.Host.{parse_file_host}
use Rattle.url.specs.Parser.{Parsed, parse_url, parse_parts, parse_body, parse_file, leading_slashes, inherit_file, split_scheme, after_file_double_slash}
use Rattle.url.specs.Parts.{Parts}
use Rattle.url.specs.Path.{shorten_path, parse_segments, parse_path, parse_path_start, push_segment, dot_count, is_windows_drive_letter}
use Rattle.url.specs.Scheme.{scheme_type, scheme_len, is_slash}
use Rattle.url_spec.proofs.FileUrls.{All_escaped, escaped-append, escaped_plain, nothing_escaped, some_escaped, file_parts, file_serialized, file_path_parsed, file_path_ascii, folder_slash}
use Rattle.url_spec.proofs.IndexUrls.{shortened}
use Rattle.url_spec.proofs.OwnTexts.{kept_from_parse}
use Rattle.url_spec.proofs.PlainTexts.{is_path_byte, ArePath, parse_plain, plain_passes, plain_small, plain_texts, path_texts}
use Rattle.url_spec.specs.FileJoins.{IsFolderOf, LeadsTo, below, up}
use Rattle.url_spec.specs.FileUrls.{file_text, path_or_empty}
use Rattle.url_spec.specs.Laws.{FileJoins}
use Rattle.url_spec.specs.Parsing.{text_of, parse_against, parse_onto, url_text, kept}
use Rattle.url_spec.specs.WebNames.{is_plain, escaped}

abbrev Small : List ℕ → Type 0
Small text = All (λ b. b < 256) text

-- ---- a path that isn't the root, by its parent

record Child (parent name path : List ℕ) : Type 0 where
  text : path ≡ parent ++ 47 ∷ name
  segment : IsSegment name

child_of : (parent path : List ℕ) → (is : IsParent parent path) → parent ≢ codes "/" → Child parent is.name path
child_of parent path is other = record {
  text = is.text ∙ ap (λ front. front ++ 47 ∷ is.name) (cond-false _ [] parent (other_text parent (codes "/") other));
  segment = is.segment;
}

joined_below : (above rest : List ℕ) → above ≢ codes "/" → joined above rest ≡ above ++ 47 ∷ rest
joined_below above rest other = ap (λ front. front ++ 47 ∷ rest) (cond-false _ [] above (other_text above (codes "/") other))

longer : (front name : List ℕ) → IsSegment name → front ++ 47 ∷ name ≢ codes "/"
longer [] [] is e = is.nonempty refl
longer [] (b ∷ name) is e = cc
longer (a ∷ []) name is e = cc
longer (a ∷ b ∷ front) name is e = cc

not_root : (parent path : List ℕ) → IsParent parent path → path ≢ codes "/"
not_root parent path is e =
    let has = front_of parent is.name in
    longer has.front is.name is.segment (sym has.text_is ∙ (sym is.text ∙ e))

leads_below_root : (above text path : List ℕ) → LeadsTo above text path → above ≢ codes "/"
leads_below_root above text path (below _ _ _ other plain is valid) = other
leads_below_root above text path (up parent _ _ more _ is_text is_parent leads) = not_root parent above is_parent

-- ---- bytes

escape_passes : (b : ℕ) → IsEscapeByte b → is_path_byte b ≡ true
escape_passes b escape = grind (arith, nat_tests)

escaped_bytes : (path : List ℕ) → Small path → ArePath (escaped path)
escaped_bytes path small =
    All_escaped (Passes is_path_byte) (λ b. b < 256) path small (λ b is plain. plain_passes b plain) escape_passes

plain_itself : (text : List ℕ) → All (Passes is_plain) text → escaped text ≡ text
plain_itself [] all = nothing_escaped
plain_itself (b ∷ text) all =
    escaped_plain b text (All-head (Passes is_plain) b text all)
    ∙ ap (λ xs. b ∷ xs) (plain_itself text (All-tail (Passes is_plain) b text all))

escaped_child : (front name : List ℕ) → escaped (front ++ 47 ∷ name) ≡ escaped front ++ 47 ∷ escaped name
escaped_child front name = escaped-append front (47 ∷ name) ∙ ap (λ xs. escaped front ++ xs) (escaped_plain 47 name refl)

-- ---- what is read

read_alone : (path : List ℕ) → ArePath (codes "file:///" ++ path) → parse_url None (codes "file:///" ++ path) ≡ Ok (file_parts (parse_path File [] path))
unfolding parse_parts parse_body parse_file leading_slashes split_scheme scheme_len scheme_type after_file_double_slash parse_file_host parse_path_start is_windows_drive_letter percent_encode file_parts
read_alone path all =
    parse_plain None (codes "file:///" ++ path) all ∙ ap (λ p. Ok (file_parts p)) (cond-false _ _ _ (and-false _))

read_here : (path rest : List ℕ) → ArePath (46 ∷ 47 ∷ rest) → parse_url (Some (file_parts path)) (46 ∷ 47 ∷ rest) ≡ Ok (file_parts (parse_path File (shorten_path File path) (46 ∷ 47 ∷ rest)))
unfolding parse_parts parse_body parse_file leading_slashes inherit_file split_scheme scheme_len scheme_type is_windows_drive_letter file_parts
read_here path rest all =
    parse_plain (Some (file_parts path)) (46 ∷ 47 ∷ rest) all ∙ cond-false _ _ _ (is_empty_nonempty (46 ∷ 47 ∷ rest) (omega arith))

read_up : (path rest : List ℕ) → ArePath (46 ∷ 46 ∷ 47 ∷ rest) → parse_url (Some (file_parts path)) (46 ∷ 46 ∷ 47 ∷ rest) ≡ Ok (file_parts (parse_path File (shorten_path File path) (46 ∷ 46 ∷ 47 ∷ rest)))
unfolding parse_parts parse_body parse_file leading_slashes inherit_file split_scheme scheme_len scheme_type is_windows_drive_letter file_parts
read_up path rest all =
    parse_plain (Some (file_parts path)) (46 ∷ 46 ∷ 47 ∷ rest) all ∙ cond-false _ _ _ (is_empty_nonempty (46 ∷ 46 ∷ 47 ∷ rest) (omega arith))

dot : All (λ b. is_slash File b ≡ false) (46 ∷ [])
dot = All-cons (λ b. is_slash File b ≡ false) 46 [] refl (All-nil (λ b. is_slash File b ≡ false))

here_passed : (path rest : List ℕ) → parse_path File path (46 ∷ 47 ∷ rest) ≡ parse_path File path rest
unfolding push_segment dot_count
here_passed path rest =
    parse_path_more File path (46 ∷ []) 47 rest dot refl ∙ ap (λ p. parse_path File p rest) (append-nil path)

up_passed : (path rest : List ℕ) → parse_path File path (46 ∷ 46 ∷ 47 ∷ rest) ≡ parse_path File (shorten_path File path) rest
unfolding push_segment dot_count
up_passed path rest =
    parse_path_more File path (46 ∷ 46 ∷ []) 47 rest (All-cons (λ b. is_slash File b ≡ false) 46 (46 ∷ []) refl dot) refl
    ∙ ap (λ p. parse_path File p rest) (append-nil (shorten_path File path))

-- ---- what a path is without its last segment

shortened_name : (front name : List ℕ) → 2 ≤ length front → 0 < length name → All (IsNot 47) name → shorten_path File (front ++ 47 ∷ name) ≡ front
unfolding shorten_path
shortened_name front name long some none =
    cond-false _ _ _ (and_left _ _ (ne_eqb (length (front ++ 47 ∷ name)) 3 (λ e. absurd (omega (arith, e, length-append front (47 ∷ name))))))
    ∙ ap (λ (r : Option (List ℕ) × List ℕ). unwrap_or r.0 []) (rsplit_once_at 47 front name none)

long_escaped : (front name : List ℕ) → IsSegment name → 2 ≤ length (escaped (front ++ 47 ∷ name))
long_escaped front name is =
    subst (λ xs. 2 ≤ length xs) (sym (escaped_child front name))
    (omega (arith, length-append (escaped front) (47 ∷ escaped name), some_escaped name is.nonempty))

path_long : (depth : ℕ) (path : List ℕ) → HasDepth depth path → path ≢ codes "/" → 2 ≤ length (escaped path)
path_long _ path (root _ e) other = absurd (other e)
path_long _ path (child depth deeper parent name _ above is next e) other =
    let has = front_of parent name in
    subst (λ p. 2 ≤ length (escaped p)) (sym (e ∙ has.text_is)) (long_escaped has.front name is)

escape_no_slash : (b : ℕ) → IsEscapeByte b → b ≢ 47
escape_no_slash b escape e = grind arith

escaped_no_slash : (name : List ℕ) → IsSegment name → All (IsNot 47) (escaped name)
escaped_no_slash name is = All_escaped (IsNot 47) (λ b. b ≢ 47) name is.no_slash (λ b other plain. other) escape_no_slash

shortened_child : (parent path : List ℕ) → IsParent parent path → parent ≢ codes "/" → shorten_path File (escaped path) ≡ escaped parent
shortened_child parent path is other =
    let c = child_of parent path is other in
    ap (λ p. shorten_path File (escaped p)) c.text
    ∙ (ap (shorten_path File) (escaped_child parent is.name)
    ∙ shortened_name (escaped parent) (escaped is.name) (path_long is.is_path.depth parent is.is_path.segments other) (some_escaped is.name is.segment.nonempty) (escaped_no_slash is.name is.segment))

-- ---- the path state behind a folder

record ReadFrom (path segment front : List ℕ) : Type 0 where
  state : List ℕ
  reads : (rest : List ℕ) → parse_segments File path segment ((front ++ 47 ∷ []) ++ rest) ≡ parse_segments File state [] rest

read_from : (path segment front : List ℕ) → ReadFrom path segment front
unfolding parse_segments
read_from path segment [] = record { state = push_segment File path segment false; reads = λ rest. refl }
read_from path segment (b ∷ front) =
    ⊎_elim
    (λ slash. let later = read_from (push_segment File path segment false) [] front in
    record { state = later.state; reads = λ rest. cond-true _ _ _ slash ∙ later.reads rest })
    (λ other. let later = read_from path (segment ++ b ∷ []) front in
    record { state = later.state; reads = λ rest. cond-false _ _ _ other ∙ later.reads rest })
    (cases_Bool (is_slash File b))

last_empty : (path : List ℕ) → parse_path File path [] ≡ path ++ 47 ∷ []
unfolding parse_segments push_segment dot_count percent_encode is_windows_drive_letter
last_empty path = ap (λ text. path ++ 47 ∷ text) (cond-false _ _ _ (and-false _))

same_path : (path other : List ℕ) → ◌≡◌ {A = Parsed Parts} (Ok (file_parts path)) (Ok (file_parts other)) → path ≡ other
unfolding file_parts
same_path path other e = ap (λ found. path_or_empty (result_ok found)) e

record Rooted (path : List ℕ) : Type 0 where
  rest : List ℕ
  text : path ≡ 47 ∷ rest

rooted_by : (at : Bool) (parent name path : List ℕ) → Rooted parent → path ≡ cond at [] parent ++ 47 ∷ name → Rooted path
rooted_by true parent name path high same = record { rest = name; text = same }
rooted_by false parent name path high same = record { rest = high.rest ++ 47 ∷ name; text = same ∙ ap (λ xs. xs ++ 47 ∷ name) high.text }

rooted_depth : (depth : ℕ) (path : List ℕ) → HasDepth depth path → Rooted path
rooted_depth _ path (root _ e) = record { rest = []; text = e }
rooted_depth _ path (child depth deeper parent name _ above is next e) =
    rooted_by (bytes_eq parent (codes "/")) parent name path (rooted_depth depth parent above) e

slashed : (text : List ℕ) → ArePath text → ArePath (codes "file:///" ++ text)
slashed text all = All-append (Passes is_path_byte) (codes "file:///") text (path_texts (codes "file:///") refl) all

here_bytes : (text : List ℕ) → ArePath text → ArePath (codes "./" ++ text)
here_bytes text all = All-append (Passes is_path_byte) (codes "./") text (path_texts (codes "./") refl) all

up_bytes : (text : List ℕ) → ArePath text → ArePath (codes "../" ++ text)
up_bytes text all = All-append (Passes is_path_byte) (codes "../") text (path_texts (codes "../") refl) all

-- what is read of a rest below a folder is the path that it leads to
below_read : (above rest path : List ℕ) → IsPath above → Small above → above ≢ codes "/" → list_all is_plain rest ≡ true → path ≡ joined above rest → IsPath path → Small path → parse_path File (escaped above) rest ≡ escaped path
unfolding file_text
below_read above rest path is small other plain e valid small_path =
    let rooted = rooted_depth is.depth above is.segments in
    let front : List ℕ = escaped rooted.rest in
    let above_is : escaped above ≡ 47 ∷ front = ap escaped rooted.text ∙ escaped_plain 47 rooted.rest refl in
    let end : folder_slash above true ≡ 47 ∷ [] = cond-true _ (codes "/") [] (ap not (other_text above (codes "/") other)) in
    let folder_is : file_text above true ≡ codes "file:///" ++ (front ++ 47 ∷ []) =
    ap (λ s. codes "file://" ++ (escaped above ++ s)) end ∙ ap (λ a. codes "file://" ++ (a ++ 47 ∷ [])) above_is in
    let path_is : escaped path ≡ 47 ∷ ((front ++ 47 ∷ []) ++ rest) =
    ap escaped (e ∙ joined_below above rest other)
    ∙ (escaped_child above rest
    ∙ (ap (λ r. escaped above ++ 47 ∷ r) (plain_itself rest (plain_texts rest plain))
    ∙ (ap (λ a. a ++ 47 ∷ rest) above_is ∙ ap (λ xs. 47 ∷ xs) (sym (append_assoc front (47 ∷ []) rest))))) in
    let folder_bytes : ArePath (codes "file:///" ++ (front ++ 47 ∷ [])) =
    slashed (front ++ 47 ∷ []) (All-append (Passes is_path_byte) front (47 ∷ []) (escaped_bytes rooted.rest (All-tail (λ b. b < 256) 47 rooted.rest (subst Small rooted.text small))) (All-cons (Passes is_path_byte) 47 [] refl (All-nil (Passes is_path_byte)))) in
    let path_bytes : ArePath (codes "file:///" ++ ((front ++ 47 ∷ []) ++ rest)) =
    slashed ((front ++ 47 ∷ []) ++ rest) (All-tail (Passes is_path_byte) 47 ((front ++ 47 ∷ []) ++ rest) (subst ArePath path_is (escaped_bytes path small_path))) in
    let r = read_from [] [] front in
    let folder_read : parse_path File [] (front ++ 47 ∷ []) ≡ escaped above ++ 47 ∷ [] =
    same_path _ _ (sym (read_alone (front ++ 47 ∷ []) folder_bytes)
    ∙ (ap (parse_url None) (sym folder_is) ∙ (file_path_parsed above true is small ∙ ap (λ s. Ok (file_parts (escaped above ++ s))) end))) in
    let state_is : r.state ≡ escaped above =
    append_cancel_right r.state (escaped above) (47 ∷ [])
    (sym (last_empty r.state) ∙ (sym (r.reads []) ∙ (ap (parse_path File []) (append-nil (front ++ 47 ∷ [])) ∙ folder_read))) in
    let whole_is : file_text path false ≡ codes "file:///" ++ ((front ++ 47 ∷ []) ++ rest) =
    ap (λ xs. codes "file://" ++ xs) (append-nil (escaped path) ∙ path_is) in
    let path_read : parse_path File [] ((front ++ 47 ∷ []) ++ rest) ≡ escaped path =
    same_path _ _ (sym (read_alone ((front ++ 47 ∷ []) ++ rest) path_bytes)
    ∙ (ap (parse_url None) (sym whole_is) ∙ (file_path_parsed path false valid small_path ∙ ap (λ p. Ok (file_parts p)) (append-nil (escaped path))))) in
    ap (λ p. parse_path File p rest) (sym state_is) ∙ (sym (r.reads rest) ∙ path_read)

-- ---- a text that leads to a path

parent_small : (parent path : List ℕ) → IsParent parent path → parent ≢ codes "/" → Small path → Small parent
parent_small parent path is other small =
    all_front (λ b. b < 256) parent (47 ∷ is.name) (subst Small (child_of parent path is other).text small)

leads_small : (above text path : List ℕ) → LeadsTo above text path → Small above → Small path
leads_small above text path (below _ _ _ other plain is valid) small =
    subst Small (sym (is ∙ joined_below above text other))
    (All-append (λ b. b < 256) above (47 ∷ text) small (All-cons (λ b. b < 256) 47 text (omega arith) (All-weaker (Passes is_plain) (λ b. b < 256) plain_small text (plain_texts text plain))))
leads_small above text path (up parent _ _ more _ is_text is_parent leads) small =
    leads_small parent more path leads (parent_small parent above is_parent (leads_below_root parent more path leads) small)

leads_bytes : (above text path : List ℕ) → LeadsTo above text path → ArePath text
leads_bytes above text path (below _ _ _ other plain is valid) =
    All-weaker (Passes is_plain) (Passes is_path_byte) plain_passes text (plain_texts text plain)
leads_bytes above text path (up parent _ _ more _ is_text is_parent leads) =
    subst ArePath (sym is_text) (up_bytes more (leads_bytes parent more path leads))

leads_read : (above text path : List ℕ) → LeadsTo above text path → IsPath above → Small above → parse_path File (escaped above) text ≡ escaped path
leads_read above text path (below _ _ _ other plain is valid) is_path small =
    below_read above text path is_path small other plain is valid (leads_small above text path (below above text path other plain is valid) small)
leads_read above text path (up parent _ _ more _ is_text is_parent leads) is_path small =
    let other = leads_below_root parent more path leads in
    ap (parse_path File (escaped above)) is_text
    ∙ (up_passed (escaped above) more
    ∙ (ap (λ p. parse_path File p more) (shortened_child parent above is_parent other)
    ∙ leads_read parent more path leads is_parent.is_path (parent_small parent above is_parent other small)))

leads_valid : (above text path : List ℕ) → LeadsTo above text path → IsPath path
leads_valid above text path (below _ _ _ other plain is valid) = valid
leads_valid above text path (up parent _ _ more _ is_text is_parent leads) = leads_valid parent more path leads

-- ---- the join

-- what is kept of the URL's path before the text is read
folder_start : (path above : List ℕ) (folder : Bool) → IsFolderOf path folder above → above ≢ codes "/" → shorten_path File (escaped path ++ folder_slash path folder) ≡ escaped above
folder_start path above true is other =
    let not_root : path ≢ codes "/" = λ e. other (is ∙ e) in
    let end : folder_slash path true ≡ 47 ∷ [] = cond-true _ (codes "/") [] (ap not (other_text path (codes "/") not_root)) in
    ap (λ s. shorten_path File (escaped path ++ s)) end ∙ (shortened (escaped path) ∙ ap escaped (sym is))
folder_start path above false is other =
    ap (shorten_path File) (append-nil (escaped path)) ∙ shortened_child above path is other

folder_is_path : (path above : List ℕ) (folder : Bool) → IsFolderOf path folder above → IsPath path → IsPath above
folder_is_path path above true is valid = subst IsPath (sym is) valid
folder_is_path path above false is valid = is.is_path

folder_small : (path above : List ℕ) (folder : Bool) → IsFolderOf path folder above → above ≢ codes "/" → Small path → Small above
folder_small path above true is other small = subst Small (sym is) small
folder_small path above false is other small = parent_small above path is other small

file_end : (path : List ℕ) → file_text path false ≡ codes "file://" ++ escaped path
unfolding file_text
file_end path = ap (λ xs. codes "file://" ++ xs) (append-nil (escaped path))

-- what is parsed to the parts of a path's URL counts
counts : (path : List ℕ) (base : Parts) (text : List ℕ) → IsPath path → Small path → parse_url (Some base) text ≡ Ok (file_parts (escaped path)) → kept (url_text (parse_url (Some base) text)) ≡ Some (file_text path false)
unfolding text_of
counts path base text is small parsed =
    let end : file_text path false ≡ codes "file://" ++ escaped path = file_end path in
    let own : text_of (file_parts (escaped path)) ≡ file_text path false = file_serialized (escaped path) ∙ sym end in
    let back : url_text (parse_url None (file_text path false)) ≡ Some (file_text path false) =
    ap url_text (file_path_parsed path false is small ∙ ap (λ p. Ok (file_parts p)) (append-nil (escaped path))) ∙ ap Some own in
    ap (λ found. kept (url_text found)) parsed
    ∙ (ap (λ t. kept (Some t)) own ∙ kept_from_parse (file_text path false) (file_path_ascii path false is small) back)

joined_by : (path above target text asked : List ℕ) (folder : Bool) → IsPath path → Small path → IsPath target → Small target
    → parse_url (Some (file_parts (escaped path ++ folder_slash path folder))) asked ≡ Ok (file_parts (escaped target))
    → parse_against (file_text path folder) asked ≡ Some (file_text target false)
unfolding parse_against
joined_by path above target text asked folder is small valid small_target parsed =
    ap (λ base. parse_onto base asked) (file_path_parsed path folder is small)
    ∙ counts target (file_parts (escaped path ++ folder_slash path folder)) asked valid small_target parsed

joined_here : (path above text target : List ℕ) (folder : Bool) → IsPath path → Small path → IsFolderOf path folder above → LeadsTo above text target
    → parse_against (file_text path folder) (codes "./" ++ text) ≡ Some (file_text target false)
joined_here path above text target folder is small of leads =
    let other = leads_below_root above text target leads in
    let small_above = folder_small path above folder of other small in
    let base : List ℕ = escaped path ++ folder_slash path folder in
    joined_by path above target text (codes "./" ++ text) folder is small (leads_valid above text target leads) (leads_small above text target leads small_above)
    (read_here base text (here_bytes text (leads_bytes above text target leads))
    ∙ ap (λ p. Ok (file_parts p))
    (here_passed (shorten_path File base) text
    ∙ (ap (λ p. parse_path File p text) (folder_start path above folder of other)
    ∙ leads_read above text target leads (folder_is_path path above folder of is) small_above)))

joined_up : (path above text target : List ℕ) (folder : Bool) → IsPath path → Small path → IsFolderOf path folder above → LeadsTo above (codes "../" ++ text) target
    → parse_against (file_text path folder) (codes "../" ++ text) ≡ Some (file_text target false)
joined_up path above text target folder is small of leads =
    let whole : List ℕ = codes "../" ++ text in
    let other = leads_below_root above whole target leads in
    let small_above = folder_small path above folder of other small in
    let base : List ℕ = escaped path ++ folder_slash path folder in
    joined_by path above target text whole folder is small (leads_valid above whole target leads) (leads_small above whole target leads small_above)
    (read_up base text (leads_bytes above whole target leads)
    ∙ ap (λ p. Ok (file_parts p))
    (ap (λ p. parse_path File p whole) (folder_start path above folder of other)
    ∙ leads_read above whole target leads (folder_is_path path above folder of is) small_above))

pub file_joins : FileJoins
file_joins path above text target folder is small of =
    (joined_here path above text target folder is small of, joined_up path above text target folder is small of)
