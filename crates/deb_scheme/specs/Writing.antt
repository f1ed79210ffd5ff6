-- The normal text of a version of Debian Policy, 5.6.12: the text as it is written.
use Rattle.std.specs.Prelude.{ℕ, List}
use Rattle.deb_scheme.specs.Version.{Fields}

abbrev pub normal : Fields → List ℕ
normal v = v.text
