-- No two statuses have one number.
use Rattle.std.proofs.Common.{◌≡◌, ℕ, refl, sym, ap, ◌∙◌, if◌then◌else◌, ◌==◌}
use Rattle.vx_cli.specs.Statuses.{number_of}
use Rattle.vx_cli.specs.declared.status.Status.{Status}
use Rattle.vx_cli.specs.declared.status.Status.TheVariants.{Done, Refused, Usage, ReadFault, WriteFault, NoMemory, InputLimit}

abbrev status_at : ℕ → Status
status_at n =
    if n == 0 then Done else if n == 1 then Refused else if n == 2 then Usage else if n == 3 then ReadFault else if n == 4 then WriteFault else if n == 5 then NoMemory
    else InputLimit

there_and_back : (status : Status) → status_at (number_of status) ≡ status
there_and_back Done = refl
there_and_back Refused = refl
there_and_back Usage = refl
there_and_back ReadFault = refl
there_and_back WriteFault = refl
there_and_back NoMemory = refl
there_and_back InputLimit = refl

pub one_number : (a b : Status) → number_of a ≡ number_of b → a ≡ b
one_number a b e = sym (there_and_back a) ∙ ap status_at e ∙ there_and_back b
