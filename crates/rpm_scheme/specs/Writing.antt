-- The normal text of a version of rpm-version(7): the text as it is written.
use Rattle.std.specs.Prelude.{ℕ, List}
use Rattle.rpm_scheme.specs.Version.{Fields}

abbrev pub normal : Fields → List ℕ
normal v = v.text
