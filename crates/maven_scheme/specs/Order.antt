-- The order of versions after the POM reference, "Version Order Specification": by the first place at which the letters of
-- two versions differ.
use Rattle.std.specs.Cmp.{IsTotalOrder, on_total}
use Rattle.std.specs.declared.cmp.Ordering.{Ordering}
use Rattle.vx_order.specs.Letters.{letters_cmp, LettersCompareAs}
use Rattle.vx_order.proofs.LetterLaws.{letters_total}
use Rattle.maven_scheme.specs.Version.{Fields, end_rank}

-- How two versions compare: the first letters that differ decide. Each list goes on without end with the end's letter, which
-- stands above "snapshot" and below the empty qualifier.
abbrev pub order_of : Fields → Fields → Ordering
order_of a b = letters_cmp end_rank a.letters b.letters

-- the answer says how the letters compare at the first of them that differ
abbrev pub AnswersLetters : Fields → Fields → Ordering → Type 0
AnswersLetters a b answer = LettersCompareAs end_rank a.letters b.letters answer

pub order_total : IsTotalOrder order_of
order_total = on_total (λ v. v.letters) (letters_total end_rank)
