-- Short forms for which nothing has to be parsed: below an ordinary folder, with ordinary names.
--     is_path_byte b      the byte stands in a URL's path as it is
--     is_plain_folder text      the text is `http://` or `https://`, a host and folders, of such bytes alone
--     is_plain_rest text      such bytes alone, and no segment that could read as `.` or `..`
--     IsPlainBase base      the base's folder is plain, and so is what stands behind it
use Rattle.std.specs.Prelude.{◌≡◌, ◌++◌, ◌==◌, ◌&&◌, ◌||◌, not, Bool, true, false, ℕ, List, [], ◌∷◌, codes, drop, length, if◌then◌else◌}
use Rattle.std.specs.List.{list_all, list_any}
use Rattle.url_spec.specs.Parsing.{IsUrl}
use Rattle.url_spec.specs.Specifiers.{begins, ends_in_slash}
use Rattle.url_spec.specs.WebNames.{is_plain}
use Rattle.layout_spec.specs.ShortForms.{folder_text, short}

-- a byte that web names have as it is, or that begins an escape
abbrev pub is_path_byte : ℕ → Bool
is_path_byte b = is_plain b || b == 37

-- a host, and folders below it
abbrev pub is_host_and_folders : List ℕ → Bool
is_host_and_folders text = not (begins text (codes "/")) && ends_in_slash text && list_all is_path_byte text

abbrev pub is_below : List ℕ → List ℕ → Bool
is_below start text = begins text start && is_host_and_folders (drop (length start) text)

abbrev pub is_plain_folder : List ℕ → Bool
is_plain_folder text = is_below (codes "https://") text || is_below (codes "http://") text

-- with this byte behind a `.` or a `%` that begins a segment, it reads as no dot
abbrev pub is_no_dot : ℕ → Bool
is_no_dot b = not (b == 46 || b == 37 || b == 47 || b == 50)

abbrev pub goes_on : List ℕ → Bool
goes_on [] = false
goes_on (b ∷ rest) = is_no_dot b

-- a segment begins here that reads neither as `.` nor as `..`
abbrev pub begins_segment : List ℕ → Bool
begins_segment [] = true
begins_segment (b ∷ rest) = if b == 46 || b == 37 then goes_on rest else true

-- and so behind each `/`
abbrev pub begin_segments : List ℕ → Bool
begin_segments [] = true
begin_segments (b ∷ rest) = (if b == 47 then begins_segment rest else true) && begin_segments rest

abbrev pub is_plain_rest : List ℕ → Bool
is_plain_rest text = list_all is_path_byte text && (begins_segment text && begin_segments text)

-- and no byte and no segment of it is another
pub record HasPlainSegments (text : List ℕ) : Type 0 where
  pub bytes : list_all is_path_byte text ≡ true
  pub segments : begin_segments text ≡ true

-- a folder, and what stands behind it in the URL of a page
pub record ArePlain (folder name : List ℕ) : Type 0 where
  pub folder_is : is_plain_folder folder ≡ true
  pub name_is : is_plain_rest name ≡ true
  pub no_slash : list_any (λ b. b == 47) name ≡ false

pub record IsPlainBase (base : List ℕ) : Type 0 where
  pub is_url : IsUrl base
  pub name : List ℕ
  pub split : base ≡ folder_text base ++ name
  pub plain : ArePlain (folder_text base) name

-- own law: below the folder of such a base, a rest that is plain is the short form, and needs no parse
abbrev pub PlainRests : Type 0
PlainRests =
    (base rest : List ℕ) → IsPlainBase base → is_plain_rest rest ≡ true
    → short base (folder_text base ++ rest) ≡ codes "./" ++ rest

-- own: the folder of the base, and whether it is known to be plain
pub record IsFolderOf (base folder : List ℕ) (known : Bool) : Type 0 where
  pub is_folder : folder ≡ folder_text base
  pub plain : known ≡ true → IsPlainBase base

-- own: the rest is the short form of what it is the rest of, behind `./`
pub record IsPlainShort (base rest : List ℕ) : Type 0 where
  pub bytes : is_plain_rest rest ≡ true
  pub is_short : short base (folder_text base ++ rest) ≡ codes "./" ++ rest
