-- When a URL is a base.
use Rattle.std.proofs.Common.{◌≡◌, List, ℕ, Some, None, true, false, ap, ◌∙◌}
use Rattle.std.proofs.lemmas.Bool.{cond-true, cond-false}
use Rattle.url.specs.Parts.{Parts}
use Rattle.url_spec.specs.Parsing.{text_of, parse_alone}
use Rattle.url_spec.specs.Bases.{is_web_folder, names_web_folder, folder_url, base_of, IsBase}
use Rattle.url_spec.proofs.Bases.{bases_stay}
use Rattle.web_url.specs.Written.{IsWritten}
use Rattle.web_url.proofs.UrlTexts.{parts_written, text_value}

pub base_ok : (text : List ℕ) (url : Parts) → parse_alone text ≡ Some (text_of url) → IsWritten url → names_web_folder url ≡ true → base_of text ≡ Some (text_of url)
unfolding base_of
base_ok text url e own folder =
    ap folder_url e ∙ cond-true _ _ _ (ap is_web_folder (parts_written url own) ∙ folder)

pub base_bad : (text : List ℕ) (url : Parts) → parse_alone text ≡ Some (text_of url) → IsWritten url → names_web_folder url ≡ false → base_of text ≡ None
unfolding base_of
base_bad text url e own other =
    ap folder_url e ∙ cond-false _ _ _ (ap is_web_folder (parts_written url own) ∙ other)

pub base_none : (text : List ℕ) → parse_alone text ≡ None → base_of text ≡ None
unfolding base_of
base_none text e = ap folder_url e

pub base_stays : (text base : List ℕ) → base_of text ≡ Some base → IsBase base
base_stays = bases_stay

pub ruleset bases = (base_ok, base_bad, base_none, base_stays, text_value)
