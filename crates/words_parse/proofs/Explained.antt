-- The fault that is made of an error of `clap`'s is right of the words.
use Rattle.clap.specs.Kinds.{HasKind, IsAmong}
use Rattle.clap.specs.Words.{fault_of, kind_of}
use Rattle.clap.specs.declared.error.Error.{Error}
use Rattle.clap.specs.declared.error.kind.ErrorKind.TheVariants.{OutOfMemory}
use Rattle.std.proofs.Common.{◌≡◌, ◌≢◌, ℕ, List, inl, inr, refl, subst}
use Rattle.words_clap_spec.specs.Program.{program}
use Rattle.words_parse.specs.Explaining.{Explains}
use Rattle.words_parse.specs.declared.WordsFault.{WordsFault}
use Rattle.words_parse.specs.declared.WordsFault.TheVariants.{Told, NotPlain, Memory}

pub explained : (words : List (List ℕ)) (fault : WordsFault) (error : Error) → HasKind (fault_of program words) error → (kind_of error ≡ OutOfMemory → fault ≡ Memory) → fault ≢ NotPlain → Explains words fault
explained words (Told text) error (inl memory) made told = absurd (let bad : Told text ≡ Memory = made memory in cc)
explained words (Told text) error (inr among) made told = λ none. subst (IsAmong (kind_of error)) none among
explained words NotPlain error has made told = absurd (told refl)
explained words Memory error has made told = tt
