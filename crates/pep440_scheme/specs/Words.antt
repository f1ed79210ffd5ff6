-- The words of PEP 440's parts, "Normalization": each alternate spelling beside what it stands for.
use Rattle.std.specs.Prelude.{ℕ, List, [], ◌∷◌, ◌++◌, codes, Option, Some, None, if◌then◌else◌}
use Rattle.std.specs.Str.{bytes_eq}
use Rattle.pep440_scheme.specs.declared.version.PreKind.TheVariants.{A, B, Rc}
use Rattle.pep440_scheme.specs.declared.words.Mark.{Mark}
use Rattle.pep440_scheme.specs.declared.words.Mark.TheVariants.{Pre, Post, Dev}

-- a word in small letters, and the part that it begins
pub record MarkWord : Type 0 where
  pub word : List ℕ
  pub mark : Mark

-- "Pre-release spelling". A word stands before those that begin it.
abbrev pub pre_words : List MarkWord
pre_words =
    record { word = codes "alpha"; mark = Pre A }
    ∷ record { word = codes "a"; mark = Pre A }
    ∷ record { word = codes "beta"; mark = Pre B }
    ∷ record { word = codes "b"; mark = Pre B }
    ∷ record { word = codes "preview"; mark = Pre Rc }
    ∷ record { word = codes "pre"; mark = Pre Rc }
    ∷ record { word = codes "rc"; mark = Pre Rc }
    ∷ record { word = codes "c"; mark = Pre Rc }
    ∷ []

-- "Post release spelling" and "Development release segment"
abbrev pub later_words : List MarkWord
later_words =
    record { word = codes "post"; mark = Post }
    ∷ record { word = codes "rev"; mark = Post }
    ∷ record { word = codes "r"; mark = Post }
    ∷ record { word = codes "dev"; mark = Dev }
    ∷ []

abbrev pub mark_words : List MarkWord
mark_words = pre_words ++ later_words

-- the part that a word begins by a table, where it stands there
abbrev pub mark_in : List MarkWord → List ℕ → Option Mark
mark_in [] text = None
mark_in (entry ∷ table) text = if bytes_eq entry.word text then Some entry.mark else mark_in table text

abbrev pub mark_of : List ℕ → Option Mark
mark_of = mark_in mark_words
