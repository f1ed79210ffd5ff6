-- The normal text of a version of the POM Reference, "Version Order Specification": the text as it is written.
use Rattle.std.specs.Prelude.{ℕ, List}
use Rattle.maven_scheme.specs.Version.{Fields}

abbrev pub normal : Fields → List ℕ
normal v = v.text
