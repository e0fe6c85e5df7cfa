-- What is kept of a file URL.
--     kept_text kept      its text
--     IsKept kept      what that holds to
use Rattle.std.specs.Prelude.{◌≡◌, ◌<◌, ℕ, Bool, List, All}
use Rattle.std.specs.String.{string_bytes}
use Rattle.tree_spec.specs.Paths.{IsPath}
use Rattle.url_spec.specs.FileUrls.{file_text}
use Rattle.url_spec.specs.Parsing.{text_of}
use Rattle.web_url.specs.Written.{IsWritten}
use Rattle.web_url.specs.declared.file.Kept.{Kept}

-- own: the text is the URL of a file or a folder at this path
pub record IsNamed (text path : List ℕ) (folder : Bool) : Type 0 where
  pub spelled : text ≡ file_text path folder
  pub is_path : IsPath path
  pub bytes : All (λ b. b < 256) path

abbrev pub kept_text : Kept → List ℕ
kept_text (Kept.Named text path folder) = string_bytes text
kept_text (Kept.Parsed url) = text_of url

abbrev pub IsKept : Kept → Type 0
IsKept (Kept.Named text path folder) = IsNamed (string_bytes text) path folder
IsKept (Kept.Parsed url) = IsWritten url
