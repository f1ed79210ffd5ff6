-- What cutting a text into its raw parts answers.
use Rattle.std.specs.Prelude.{ℕ, List, Result, Ok, Err}
use Rattle.std.specs.Option.{option_copied}
use Rattle.purl_core.specs.Grammar.{Parts, IsPurlWritten, WithScheme, WithType}
use Rattle.purl_core.specs.declared.cutting.Raw.{Raw}
use Rattle.purl_core.specs.declared.cutting.CutFault.{CutFault}
use Rattle.purl_core.specs.declared.cutting.CutFault.TheVariants.{Scheme, BadType, Name}

-- the raw parts that the program holds
abbrev pub parts : Raw → Parts
parts r = record {
  scheme = r.scheme.now;
  slashes = r.slashes.now;
  kind = r.kind.now;
  path = r.path.now;
  version = option_copied r.version;
  qualifiers = option_copied r.qualifiers;
  subpath = option_copied r.subpath;
}

-- the raw parts that the text is written of, or the first refusal
abbrev pub IsPurlCut : List ℕ → Result Raw CutFault → Type 0
IsPurlCut text (Ok raw) = IsPurlWritten text (parts raw)
IsPurlCut text (Err Scheme) = ¬ (WithScheme text)
IsPurlCut text (Err BadType) = WithScheme text × ¬ (WithType text)
IsPurlCut text (Err Name) = WithType text × ((p : Parts) → ¬ (IsPurlWritten text p))
