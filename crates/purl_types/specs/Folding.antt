-- Package URLs folded as their types say (ECMA-427, the rules of the types).
use Rattle.std.specs.Prelude.{◌==◌, ℕ, if◌then◌else◌, List, map}
use Rattle.vx_text.specs.Folding.{lowered}
use Rattle.purl_core.specs.Value.{Package}
use Rattle.purl_types.specs.Table.{row_of}
use Rattle.purl_types.specs.declared.table.Folding.{Folding}
use Rattle.purl_types.specs.declared.table.Folding.TheVariants.{Kept, Lowered, Dashed}

-- '-' for '_'
abbrev pub dash : ℕ → ℕ
dash b = if b == 95 then 45 else b

-- a text as it is; in ASCII lower case; in ASCII lower case, and then with '-' for each '_'
abbrev pub fold_text : Folding → List ℕ → List ℕ
fold_text Kept text = text
fold_text Lowered text = lowered text
fold_text Dashed text = map dash (lowered text)

-- the package URL with its namespace and its name folded as its type's row says
abbrev pub folded_purl : Package → Package
folded_purl p = record {
  kind = p.kind;
  namespace = map (fold_text (row_of p.kind).namespace) p.namespace;
  name = fold_text (row_of p.kind).name p.name;
  version = p.version;
  qualifiers = p.qualifiers;
  subpath = p.subpath;
}
