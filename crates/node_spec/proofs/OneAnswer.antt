-- A specifier in a file of a tree has one answer.
use Rattle.std.proofs.Common.{◌≡◌, ℕ, List, sym, ◌∙◌, Option, ap, refl, subst}
use Rattle.std.specs.FinMap.{get}
use Rattle.tree_spec.specs.Trees.{Tree}
use Rattle.tree_spec.specs.declared.Entry.{Entry}
use Rattle.url_spec.specs.FileUrls.{url_path, NamesPath}
use Rattle.node_spec.specs.Laws.{OneAnswer}
use Rattle.node_spec.specs.Resolution.{Answer, Judges, Joins}
use Rattle.node_spec.specs.Resolution.Joins.{no_url, other_host, joined}
use Rattle.node_spec.specs.Resolution.Judges.{separator, folder, nameless, absent, no_folder, file}
use Rattle.node_spec.specs.Resolution.ResolvesRelative.{relative}

-- a file URL names one path
same_path : (url path other : List ℕ) → NamesPath (url_path url) path → NamesPath (url_path url) other → path ≡ other
same_path url path other a b = a.spelled ∙ sym b.spelled

-- what stands at one path is one thing
same_entry : (tree : Tree) (url path other : List ℕ) (x y : Option Entry) → NamesPath (url_path url) path → NamesPath (url_path url) other → get tree path ≡ x → get tree other ≡ y → x ≡ y
same_entry tree url path other x y a b p q = sym p ∙ (ap (get tree) (same_path url path other a b) ∙ q)

pub one_judgement : (tree : Tree) (url : List ℕ) (some other : Answer) → Judges tree url some → Judges tree url other → some ≡ other
one_judgement tree url some other (separator a) (separator b) = refl
one_judgement tree url some other (separator a) (folder p n e) = absurd (let f = n.no_separator in cc)
one_judgement tree url some other (separator a) (nameless f n) = absurd (cc)
one_judgement tree url some other (separator a) (absent p n e) = absurd (let f = n.no_separator in cc)
one_judgement tree url some other (separator a) (no_folder p bytes n e s) = absurd (let f = n.no_separator in cc)
one_judgement tree url some other (separator a) (file p bytes n e s) = absurd (let f = n.no_separator in cc)
one_judgement tree url some other (folder p n e) (separator b) = absurd (let f = n.no_separator in cc)
one_judgement tree url some other (folder p n e) (folder q m f) = refl
one_judgement tree url some other (folder p n e) (nameless f m) = absurd (m p n)
one_judgement tree url some other (folder p n e) (absent q m f) = absurd (let s = same_entry tree url p q _ _ n m e f in cc)
one_judgement tree url some other (folder p n e) (no_folder q bytes m f s) = absurd (let t = same_entry tree url p q _ _ n m e f in cc)
one_judgement tree url some other (folder p n e) (file q bytes m f s) = absurd (let t = same_entry tree url p q _ _ n m e f in cc)
one_judgement tree url some other (nameless f n) (separator b) = absurd (cc)
one_judgement tree url some other (nameless f n) (folder q m e) = absurd (n q m)
one_judgement tree url some other (nameless f n) (nameless g m) = refl
one_judgement tree url some other (nameless f n) (absent q m e) = refl
one_judgement tree url some other (nameless f n) (no_folder q bytes m e s) = refl
one_judgement tree url some other (nameless f n) (file q bytes m e s) = absurd (n q m)
one_judgement tree url some other (absent p n e) (separator b) = absurd (let f = n.no_separator in cc)
one_judgement tree url some other (absent p n e) (folder q m f) = absurd (let t = same_entry tree url p q _ _ n m e f in cc)
one_judgement tree url some other (absent p n e) (nameless f m) = refl
one_judgement tree url some other (absent p n e) (absent q m f) = refl
one_judgement tree url some other (absent p n e) (no_folder q bytes m f s) = refl
one_judgement tree url some other (absent p n e) (file q bytes m f s) = absurd (let t = same_entry tree url p q _ _ n m e f in cc)
one_judgement tree url some other (no_folder p bytes n e s) (separator b) = absurd (let f = n.no_separator in cc)
one_judgement tree url some other (no_folder p bytes n e s) (folder q m f) = absurd (let t = same_entry tree url p q _ _ n m e f in cc)
one_judgement tree url some other (no_folder p bytes n e s) (nameless f m) = refl
one_judgement tree url some other (no_folder p bytes n e s) (absent q m f) = refl
one_judgement tree url some other (no_folder p bytes n e s) (no_folder q others m f t) = refl
one_judgement tree url some other (no_folder p bytes n e s) (file q others m f t) = absurd (cc)
one_judgement tree url some other (file p bytes n e s) (separator b) = absurd (let f = n.no_separator in cc)
one_judgement tree url some other (file p bytes n e s) (folder q m f) = absurd (let t = same_entry tree url p q _ _ n m e f in cc)
one_judgement tree url some other (file p bytes n e s) (nameless f m) = absurd (m p n)
one_judgement tree url some other (file p bytes n e s) (absent q m f) = absurd (let t = same_entry tree url p q _ _ n m e f in cc)
one_judgement tree url some other (file p bytes n e s) (no_folder q others m f t) = absurd (cc)
one_judgement tree url some other (file p bytes n e s) (file q others m f t) = let same = same_path url p q n m in cc

one_join : (tree : Tree) (parent specifier : List ℕ) (some other : Answer) → Joins tree parent specifier some → Joins tree parent specifier other → some ≡ other
one_join tree parent specifier some other (no_url e) (no_url f) = refl
one_join tree parent specifier some other (no_url e) (other_host url f h) = refl
one_join tree parent specifier some other (no_url e) (joined url b f h judged) = absurd (cc)
one_join tree parent specifier some other (other_host url e h) (no_url f) = refl
one_join tree parent specifier some other (other_host url e h) (other_host v f k) = refl
one_join tree parent specifier some other (other_host url e h) (joined v b f k judged) = absurd (let same : url ≡ v = cc in cc)
one_join tree parent specifier some other (joined url a e h judged) (no_url f) = absurd (cc)
one_join tree parent specifier some other (joined url a e h judged) (other_host v f k) = absurd (let same : url ≡ v = cc in cc)
one_join tree parent specifier some other (joined url a e h judged) (joined v b f k judged_too) = let same : url ≡ v = cc in one_judgement tree url a b judged (subst (λ u. Judges tree u b) (sym same) judged_too)

pub one_answer : OneAnswer
one_answer tree parent specifier some other (relative a r joins) (relative b s joins_too) = one_join tree parent specifier a b joins joins_too
