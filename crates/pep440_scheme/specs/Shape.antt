-- What a version is, its numbers apart.
use Rattle.std.specs.Prelude.{◌≡◌, ◌&&◌, nat_le, is_none, Bool, true, false, List, [], ◌∷◌, length}
use Rattle.vx_scheme.specs.declared.ident.Ident.{Ident}
use Rattle.pep440_scheme.specs.declared.shape.Shape.{Shape}
use Rattle.pep440_scheme.specs.Version.{Fields}

-- there is no local version label
abbrev pub has_no_label : List Ident → Bool
has_no_label [] = true
has_no_label (part ∷ parts) = false

-- the version is neither a pre- nor a post- nor a developmental release
abbrev pub is_bare : Fields → Bool
is_bare v = (is_none v.pre && is_none v.post) && is_none v.dev

-- the shape is that of the version
pub record HasShape (shape : Shape) (v : Fields) : Type 0 where
  pub numbers : shape.has_two_numbers ≡ nat_le 2 (length v.release)
  pub public' : shape.is_public ≡ has_no_label v.local
  pub bare : shape.is_bare ≡ is_bare v
