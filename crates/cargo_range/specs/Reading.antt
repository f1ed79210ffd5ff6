-- The reading of a requirement: the comparators that `semver` reads, each of a form of the Cargo book, "Specifying
-- Dependencies".
use Rattle.std.specs.Prelude.{◌≡◌, ℕ, List, [], ◌∷◌, if◌then◌else◌, Option, Some, None, Ok}
use Rattle.semver.specs.Grammar.{is_pre_release}
use Rattle.semver.specs.Parse.{Held, req_of}
use Rattle.semver.specs.declared.Op.{Op}
use Rattle.cargo_range.specs.declared.construct.Partial.{Partial}
use Rattle.cargo_range.specs.declared.construct.Partial.TheVariants.{Major, Minor, Full}
use Rattle.cargo_range.specs.declared.construct.Construct.{Construct}

abbrev pub construct : Op → Partial → Construct
construct operator partial = record { operator = operator; partial = partial }

-- The form of a comparator, where it has one: one number or two, or three with a pre-release of the grammar or none. A
-- third number without a second, a pre-release without a third number, and one that is not of the grammar have none.
abbrev pub form_of : Held → Option Construct
form_of (operator, major, Some minor, Some patch, pre) =
    if is_pre_release pre then Some (construct operator (Full (major, minor, patch, pre, []))) else None
form_of (operator, major, Some minor, None, []) = Some (construct operator (Minor major minor))
form_of (operator, major, Some minor, None, b ∷ pre) = None
form_of (operator, major, None, Some patch, pre) = None
form_of (operator, major, None, None, []) = Some (construct operator (Major major))
form_of (operator, major, None, None, b ∷ pre) = None

-- a form before others, where each is there
abbrev pub with_form : Option Construct → Option (List Construct) → Option (List Construct)
with_form (Some form) (Some forms) = Some (form ∷ forms)
with_form (Some form) None = None
with_form None forms = None

-- the forms of comparators, where each has one
abbrev pub forms_of : List Held → Option (List Construct)
forms_of [] = Some []
forms_of (c ∷ held) = with_form (form_of c) (forms_of held)

-- the text has this reading
pub record Reads (text : List ℕ) (all : List Construct) : Type 0 where
  pub held : List Held
  pub read : req_of text ≡ Ok held
  pub formed : forms_of held ≡ Some all
