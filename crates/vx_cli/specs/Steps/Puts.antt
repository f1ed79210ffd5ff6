-- An answer that is written, and a front of one.
use Rattle.std.specs.Prelude.{◌≡◌, ℕ, List, Bool, Option, Result, Ok}
use Rattle.std.specs.Io.KnownBytes.{Appends}
use Rattle.vx_scheme.specs.declared.memory.NoMemory.{NoMemory}
use Rattle.vx_lines.specs.Outside.{AppendsFront}
use Rattle.vx_batch.specs.declared.reply.Answer.{Answer}
use Rattle.vx_cli.specs.Runs.{line_of}

-- there is an answer, and known bytes grow by its line
pub record Puts (answer : Result Answer NoMemory) (ok : Bool) (old new : Option (List ℕ)) : Type 0 where
  pub text : List ℕ
  pub is : answer ≡ Ok (record { ok = ok; text = text })
  pub grown : Appends old new (line_of text)

-- there is an answer, and known bytes grow by a front of its line
pub record PutsFront (answer : Result Answer NoMemory) (old new : Option (List ℕ)) : Type 0 where
  pub ok : Bool
  pub text : List ℕ
  pub is : answer ≡ Ok (record { ok = ok; text = text })
  pub grown : AppendsFront old new (line_of text)
