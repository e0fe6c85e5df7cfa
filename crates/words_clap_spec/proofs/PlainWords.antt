-- `clap` takes plain words, and finds in them what they ask for.
use Rattle.clap.proofs.OnLiterals.{clap_on_literals}
use Rattle.clap.specs.Simple.{entered, names_of}
use Rattle.clap.specs.Takes.{default_passes, entered_passes, is_valid, level_passes, settle_passes, walk_passes}
use Rattle.clap.specs.Walk.{Names, Walk, idle, finished, nothing_held, walk_from, walked}
use Rattle.clap.specs.Words.{App, Row, Text, built, is_simple, subcommand_of, takes}
use Rattle.std.specs.Fmt.{decimal}
use Rattle.std.specs.Int.Digits.{digits_of}
use Rattle.std.specs.List.{All, fold, list_all}
use Rattle.std.proofs.Common.{◌≡◌, ◌≢◌, ◌<◌, ◌+◌, ◌&&◌, ℕ, List, [], ◌∷◌, ◌++◌, append-nil, append_assoc, codes, length, map, Option, Some, true, false, is_some, refl, sym, ap, ap₂, ◌∙◌, subst, arith}
use Rattle.std.proofs.lemmas.Fmt.{decimal-digits_of, decimal_nonempty}
use Rattle.words_spec.specs.PlainWords.{Asked, Asks, IsValue, LinkOptions, LinkWords, no_options, linking, unlinking, explaining, vendoring, measuring, link, unlink, refresh, check, check_strictly, list, inject, session, why, vendor, measure}
use Rattle.words_clap_spec.specs.Holding.{Holds, HoldsLink, row}
use Rattle.words_clap_spec.specs.Laws.{HelpIsAskedFor, PlainWordsAreHeld, PlainWordsPass, ProgramIsSimple}
use Rattle.words_clap_spec.specs.Program.{program}
use Rattle.words_clap_spec.proofs.LinkWalk.{link_level, link_rows, link_words_end}
use Rattle.words_clap_spec.proofs.MeasureWalk.{measure_level, measure_rows}
use Rattle.words_clap_spec.proofs.PathWalk.{path_level, path_rows_found}
use Rattle.words_clap_spec.proofs.UnlinkWalk.{unlink_level, unlink_rows}
use Rattle.words_spec.proofs.Values.{no_hyphen_first}

abbrev whole : App
whole = built program

abbrev names : Names
names = names_of whole

-- ---- the level above the commands stops at the first word

abbrev stop : Text → List Text → Walk
stop name words = record { held = nothing_held; waiting = idle; position = 1; is_trailing = false; stopped = Some (name, words) }

stops : (name : Text) (passed words : List Text) → fold (walked whole.top.rules names) (stop name passed) words ≡ stop name (passed ++ words)
unfolding clap_on_literals
stops name passed [] = ap (stop name) (sym (append-nil passed))
stops name passed (word ∷ words) =
    stops name (passed ++ word ∷ []) words ∙ ap (stop name) (append_assoc passed (word ∷ []) words)

stop_passes : (name : Text) (passed words : List Text) → walk_passes whole.top names (stop name passed) words ≡ true
unfolding clap_on_literals
stop_passes name passed [] = refl
stop_passes name passed (word ∷ words) = stop_passes name (passed ++ word ∷ []) words

link_stops : (rest : List Text) → fold (walked whole.top.rules names) (walk_from nothing_held) (codes "link" ∷ rest) ≡ stop (codes "link") rest
unfolding clap_on_literals
link_stops rest = stops (codes "link") [] rest

unlink_stops : (rest : List Text) → fold (walked whole.top.rules names) (walk_from nothing_held) (codes "unlink" ∷ rest) ≡ stop (codes "unlink") rest
unfolding clap_on_literals
unlink_stops rest = stops (codes "unlink") [] rest

why_stops : (rest : List Text) → fold (walked whole.top.rules names) (walk_from nothing_held) (codes "why" ∷ rest) ≡ stop (codes "why") rest
unfolding clap_on_literals
why_stops rest = stops (codes "why") [] rest

vendor_stops : (rest : List Text) → fold (walked whole.top.rules names) (walk_from nothing_held) (codes "vendor" ∷ rest) ≡ stop (codes "vendor") rest
unfolding clap_on_literals
vendor_stops rest = stops (codes "vendor") [] rest

measure_stops : (rest : List Text) → fold (walked whole.top.rules names) (walk_from nothing_held) (codes "measure" ∷ rest) ≡ stop (codes "measure") rest
unfolding clap_on_literals
measure_stops rest = stops (codes "measure") [] rest

-- the words pass where those behind the command's name do
above_passes : (name : Text) (rest : List Text) → fold (walked whole.top.rules names) (walk_from nothing_held) (name ∷ rest) ≡ stop name rest → walk_passes whole.top names (walk_from nothing_held) (name ∷ rest) ≡ true → entered_passes whole (Some (name, rest)) ≡ true → is_some (entered whole (Some (name, rest))) ≡ true → takes program (name ∷ rest) ≡ true
unfolding clap_on_literals
above_passes name rest is passes enters some =
    ap (λ w. entered_passes whole w.stopped && level_passes whole.top names nothing_held (name ∷ rest) (is_some (entered whole w.stopped))) is
    ∙ ap₂ (λ a b. a && level_passes whole.top names nothing_held (name ∷ rest) b) enters some
    ∙ ap₂ (λ a w. a && (settle_passes whole.top.rules false w.held && (list_all default_passes whole.top.rules && is_valid whole.top (finished whole.top.rules w.held) true))) passes is

rows_below : (name : Text) (rest : List Text) → fold (walked whole.top.rules names) (walk_from nothing_held) (name ∷ rest) ≡ stop name rest → subcommand_of program (name ∷ rest) ≡ entered whole (Some (name, rest))
unfolding clap_on_literals
rows_below name rest is = ap (λ w. entered whole w.stopped) is

-- ---- each command

record Taken (words : List Text) (asked : Asked) : Type 0 where
  pub is_taken : takes program words ≡ true
  pub held : Holds asked (subcommand_of program words)

holds_link : (asked : Asked) (options : LinkOptions) (entries : List Text) (rows : List Row) (found : Option (Text × List Row)) → asked ≡ linking options entries → found ≡ Some (codes "link", rows) → HoldsLink options entries rows → Holds asked found
holds_link asked options entries rows found is at holds = subst (λ a. Holds a found) (sym is) (rows, at, holds)

link_taken : (rest : List Text) (asked : Asked) → LinkWords no_options rest asked → Taken (codes "link" ∷ rest) asked
unfolding clap_on_literals
link_taken rest asked plain =
    let e = link_words_end plain in
    record {
      is_taken = above_passes (codes "link") rest (link_stops rest) (stop_passes (codes "link") [] rest) (link_level rest asked e) refl;
      held = holds_link asked e.options e.entries e.rows _ e.is
          (rows_below (codes "link") rest (link_stops rest) ∙ ap (λ rows. Some (codes "link", rows)) (link_rows rest asked e)) e.holds;
    }

unlink_taken : (word : Text) (words : List Text) → All IsValue (word ∷ words) → Taken (codes "unlink" ∷ word ∷ words) (unlinking (word ∷ words))
unfolding clap_on_literals
unlink_taken word words all = record {
  is_taken = above_passes (codes "unlink") (word ∷ words) (unlink_stops (word ∷ words)) (stop_passes (codes "unlink") [] (word ∷ words)) (unlink_level word words all) refl;
  held = rows_below (codes "unlink") (word ∷ words) (unlink_stops (word ∷ words))
      ∙ ap (λ rows. Some (codes "unlink", rows)) (unlink_rows word words all);
}

why_taken : (path : Text) → IsValue path → Taken (codes "why" ∷ path ∷ []) (explaining path)
unfolding clap_on_literals
why_taken [] is = absurd (is.nonempty refl)
why_taken (b ∷ bs) is =
    let ne = no_hyphen_first b bs is in
    record {
      is_taken = above_passes (codes "why") ((b ∷ bs) ∷ []) (why_stops ((b ∷ bs) ∷ [])) (stop_passes (codes "why") [] ((b ∷ bs) ∷ [])) (path_level (codes "why") b bs ne) refl;
      held = rows_below (codes "why") ((b ∷ bs) ∷ []) (why_stops ((b ∷ bs) ∷ []))
          ∙ ap (λ rows. Some (codes "why", rows)) (path_rows_found (codes "why") b bs ne);
    }

vendor_taken : (path : Text) → IsValue path → Taken (codes "vendor" ∷ path ∷ []) (vendoring path)
unfolding clap_on_literals
vendor_taken [] is = absurd (is.nonempty refl)
vendor_taken (b ∷ bs) is =
    let ne = no_hyphen_first b bs is in
    record {
      is_taken = above_passes (codes "vendor") ((b ∷ bs) ∷ []) (vendor_stops ((b ∷ bs) ∷ [])) (stop_passes (codes "vendor") [] ((b ∷ bs) ∷ [])) (path_level (codes "vendor") b bs ne) refl;
      held = rows_below (codes "vendor") ((b ∷ bs) ∷ []) (vendor_stops ((b ∷ bs) ∷ []))
          ∙ ap (λ rows. Some (codes "vendor", rows)) (path_rows_found (codes "vendor") b bs ne);
    }

number_taken : (number : ℕ) (b : ℕ) (bs : List ℕ) → decimal number ≡ b ∷ bs → b ≢ 45 → Taken (codes "measure" ∷ (b ∷ bs) ∷ []) (measuring number)
unfolding clap_on_literals
number_taken number b bs is ne = record {
  is_taken = above_passes (codes "measure") ((b ∷ bs) ∷ []) (measure_stops ((b ∷ bs) ∷ [])) (stop_passes (codes "measure") [] ((b ∷ bs) ∷ [])) (measure_level b bs ne) refl;
  held = rows_below (codes "measure") ((b ∷ bs) ∷ []) (measure_stops ((b ∷ bs) ∷ []))
      ∙ ap (λ rows. Some (codes "measure", rows)) (measure_rows b bs ne)
      ∙ ap (λ text. Some (codes "measure", row (codes "number") (text ∷ []) ∷ [])) (sym is);
}

-- a number's text begins with a digit
measure_taken : (number : ℕ) (text digits : List ℕ) → decimal number ≡ text → text ≡ map (λ d. 48 + d) digits → 0 < length text → Taken (codes "measure" ∷ text ∷ []) (measuring number)
measure_taken number [] digits is e some = absurd (omega arith)
measure_taken number (b ∷ bs) [] is e some = absurd (let bad : length (b ∷ bs) ≡ 0 = ap length e in omega arith)
measure_taken number (b ∷ bs) (d ∷ digits) is e some =
    number_taken number b bs is (λ hyphen. let first : b ≡ 48 + d = cc in omega arith)

taken : {words : List Text} {asked : Asked} → Asks words asked → Taken words asked
unfolding clap_on_literals
taken (link plain) = link_taken _ _ plain
taken (unlink word words all) = unlink_taken word words all
taken refresh = record { is_taken = refl; held = refl }
taken check = record { is_taken = refl; held = refl }
taken check_strictly = record { is_taken = refl; held = refl }
taken list = record { is_taken = refl; held = refl }
taken inject = record { is_taken = refl; held = refl }
taken session = record { is_taken = refl; held = refl }
taken (why path is) = why_taken path is
taken (vendor path is) = vendor_taken path is
taken (measure number least most) =
    measure_taken number (decimal number) (digits_of 10 number) refl (decimal-digits_of number least (omega arith)) (decimal_nonempty number (omega arith))

pub plain_words_pass : PlainWordsPass
plain_words_pass words asked plain = (taken plain).is_taken

pub plain_words_are_held : PlainWordsAreHeld
plain_words_are_held words asked plain = (taken plain).held

pub program_is_simple : ProgramIsSimple
unfolding clap_on_literals
program_is_simple = (refl, refl)

pub help_is_asked_for : HelpIsAskedFor
unfolding clap_on_literals
help_is_asked_for = (refl, refl, refl, refl)
