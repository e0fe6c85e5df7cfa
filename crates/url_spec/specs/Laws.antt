-- The laws of URLs as texts. Each is the contract of a function of this crate.
--     IsNoStart b      the byte is neither a letter nor one that the URL parser trims or drops
--     index_texts      the relative texts of the files that Node tries in a folder
use Rattle.std.specs.Prelude.{◌≡◌, ◌↔◌, ℕ, List, Some, None, true, false, [], ◌∷◌, ◌≢◌, ◌<◌, ◌++◌, drop, All, codes}
use Rattle.std.specs.Prelude.{◌⊎◌, Bool, Option, Ok, Contains}
use Rattle.std.specs.Char.{is_ascii_alphabetic}
use Rattle.std.specs.Str.{IsAscii}
use Rattle.url.specs.Canonical.{IsCanonical}
use Rattle.url.specs.Input.{is_c0_control_or_space, is_tab_or_new_line}
use Rattle.url.specs.Parser.{parse_url}
use Rattle.url.specs.Parts.{Parts, IsValid}
use Rattle.tree_spec.specs.Paths.{IsPath, IsAbove}
use Rattle.url_spec.specs.Bases.{base_of, IsBase}
use Rattle.url_spec.specs.FileJoins.{IsFolderOf, LeadsTo}
use Rattle.url_spec.specs.FileUrls.{IsPlace, file_text, names_host, spelled_path, url_path}
use Rattle.url_spec.specs.PathTests.{is_path, is_served}
use Rattle.url_spec.specs.Parsing.{parse_alone, parse_against, IsUrl, text_of}
use Rattle.url_spec.specs.ServedPaths.{IsServed}
use Rattle.url_spec.specs.Specifiers.{is_relative, as_url, normalized, begins, ends_in_slash}
use Rattle.url_spec.specs.WebNames.{web, escaped}

-- own law: what parsing gives, with or without a base, is the text of a URL, and so is a web name
abbrev pub KeptUrls : Type 0
KeptUrls =
    ((text url : List ℕ) → parse_alone text ≡ Some url → IsUrl url)
    × ((base text url : List ℕ) → parse_against base text ≡ Some url → IsUrl url)
    × ((base path suffix url : List ℕ) → web base path suffix ≡ Some url → IsUrl url)

-- own law: the text of a URL is ASCII
abbrev pub AsciiUrls : Type 0
AsciiUrls = (url : List ℕ) → IsUrl url → IsAscii url

-- own: what the URL parser gives for a text without a base counts, where it is valid
abbrev pub WholeAlone : Type 0
WholeAlone =
    (text : List ℕ) (url : Parts) → parse_url None text ≡ Ok url → IsValid url → parse_alone text ≡ Some (text_of url)

-- own: the same against a base that is valid and that its own text is parsed to
abbrev pub WholeAgainst : Type 0
WholeAgainst =
    (base url : Parts) (text : List ℕ) → IsValid base → IsCanonical base → parse_url (Some base) text ≡ Ok url
    → IsValid url → parse_against (text_of base) text ≡ Some (text_of url)

-- own law: no valid URL that the parser gives is taken away
abbrev pub KeptWhole : Type 0
KeptWhole = WholeAlone × WholeAgainst

-- a byte that the URL parser neither trims nor drops, and that is no letter
pub record IsNoStart (b : ℕ) : Type 0 where
  pub no_letter : is_ascii_alphabetic b ≡ false
  pub no_space : is_c0_control_or_space b ≡ false
  pub no_tab : is_tab_or_new_line b ≡ false

-- own law: a text that is empty or begins with such a byte is no URL without a base
abbrev pub NoUrls : Type 0
NoUrls = ((b : ℕ) (rest : List ℕ) → IsNoStart b → parse_alone (b ∷ rest) ≡ None) × (parse_alone [] ≡ None)

-- own law: as a specifier the text of a URL is that URL, against every base, and the URL of a specifier is the text of
-- one
abbrev pub OwnUrls : Type 0
OwnUrls =
    ((base url : List ℕ) → IsUrl url → as_url base url ≡ Some url)
    × ((base text url : List ℕ) → as_url base text ≡ Some url → IsUrl url)

-- own law: the text of a URL is normalized to itself, whatever the base; and so is a text that is neither relative nor
-- a URL
abbrev pub NormalTexts : Type 0
NormalTexts =
    ((base url : List ℕ) → IsUrl url → normalized base url ≡ url)
    × ((base text : List ℕ) → is_relative text ≡ false → parse_alone text ≡ None → normalized base text ≡ text)

-- own law: the text of a URL, parsed against any URL, is that URL
abbrev pub SameAgainst : Type 0
SameAgainst = (base url : List ℕ) → IsUrl base → IsUrl url → parse_against base url ≡ Some url

-- own law: the base that a text gives is its own base
abbrev pub BasesStay : Type 0
BasesStay = (text base : List ℕ) → base_of text ≡ Some base → IsBase base

-- own law: at most one path is served at a URL
abbrev pub OneServed : Type 0
OneServed = (base url path other : List ℕ) → IsServed base url path → IsServed base url other → path ≡ other

-- own law: where the parse of a path's web name without a suffix is valid, as that of each URL is, and the path is
-- served there and isn't the root, the web name ends in no `/`
abbrev pub FilesEndInNoSlash : Type 0
FilesEndInNoSlash =
    (base path : List ℕ) (url : Parts) → parse_url None (base ++ (drop 1 (escaped path) ++ [])) ≡ Ok url → IsValid url
    → All (λ b. b < 256) path → IsServed base (text_of url) path → path ≢ codes "/"
    → ends_in_slash (text_of url) ≡ false

-- own law: a file URL names one place
abbrev pub OnePlace : Type 0
OnePlace =
    (url : List ℕ) (path other : Option (List ℕ)) (folder_only folder_only' escaped escaped' : Bool)
    (suffix suffix' : List ℕ)
    → IsPlace url path folder_only escaped suffix → IsPlace url other folder_only' escaped' suffix'
    → (path ≡ other) × (folder_only ≡ folder_only') × (escaped ≡ escaped') × (suffix ≡ suffix')

-- own law: the file URL of a path is a URL without a host, and its path is what follows `file://`
abbrev pub FileUrls : Type 0
FileUrls =
    (path : List ℕ) (folder : Bool) → IsPath path → All (λ b. b < 256) path → IsUrl (file_text path folder)
    × (names_host (file_text path folder) ≡ false)
    × (file_text path folder ≡ codes "file://" ++ url_path (file_text path folder))

-- own law: the tests of paths, and of what is served, say exactly what they are named for
abbrev pub PathsAreTested : Type 0
PathsAreTested =
    ((text : List ℕ) → (is_path text ≡ true) ↔ IsPath text)
    × ((base url path : List ℕ) → (is_served base url path ≡ true) ↔ IsServed base url path)

-- own law: where the text of a URL without a host begins with that of a folder other than the root, the path that it
-- spells is the folder, or stands below it
abbrev pub NamedInFolder : Type 0
NamedInFolder =
    (folder url path : List ℕ) → IsPath folder → folder ≢ codes "/" → All (λ b. b < 256) folder → IsUrl url
    → names_host url ≡ false → begins url (file_text folder true) ≡ true → IsPath path
    → path ≡ spelled_path (url_path url) → (path ≡ folder) ⊎ IsAbove folder path

-- the files that Node tries in a folder, each as a text relative to it (Node.js, "ECMAScript modules": legacy main)
abbrev pub index_texts : List (List ℕ)
index_texts = codes "./index.js" ∷ codes "./index.json" ∷ codes "./index.node" ∷ []

-- own law: joined to the URL of a folder other than the root, these begin with it
abbrev pub IndexUrls : Type 0
IndexUrls =
    (folder text url : List ℕ) → IsPath folder → folder ≢ codes "/" → All (λ b. b < 256) folder
    → Contains index_texts text → parse_against (file_text folder true) text ≡ Some url
    → begins url (file_text folder true) ≡ true

-- own law: a text that leads to a path is joined to the URL of a file or a folder without a parse, behind `./` or where
-- it begins with `../`
abbrev pub FileJoins : Type 0
FileJoins =
    (path above text target : List ℕ) (folder : Bool) → IsPath path → All (λ b. b < 256) path
    → IsFolderOf path folder above
    → (LeadsTo above text target
    → parse_against (file_text path folder) (codes "./" ++ text) ≡ Some (file_text target false))
    × (LeadsTo above (codes "../" ++ text) target
    → parse_against (file_text path folder) (codes "../" ++ text) ≡ Some (file_text target false))
