-- Replies: what a line is answered, before it is printed.
use Rattle.std.specs.Prelude.{ℕ, List, ◌++◌, Bool, true, false, codes}
use Rattle.vx_batch.specs.Answers.{refusal_line, purl_line, decision_text}
use Rattle.vx_batch.specs.declared.reply.LineFault.{LineFault}
use Rattle.vx_batch.specs.declared.reply.LineFault.TheVariants.{TooLong, NotText, BadCommand, BadScheme, BadDomain, NoVersion, NoScheme}
use Rattle.vx_batch.specs.declared.reply.Reply.{Reply}
use Rattle.vx_batch.specs.declared.reply.Reply.TheVariants.{Found, Decided, Fault, Refused, BadPurl}

abbrev pub fault_line : LineFault → List ℕ
fault_line TooLong = codes "no\t1 LineTooLong\t-"
fault_line NotText = codes "no\t2 NotText\t-"
fault_line BadCommand = codes "no\t3 BadCommand\t-"
fault_line BadScheme = codes "no\t4 BadScheme\t-"
fault_line BadDomain = codes "no\t5 BadDomain\t-"
fault_line NoVersion = codes "no\t15 NoVersion\t-"
fault_line NoScheme = codes "no\t16 NoScheme\t-"

-- whether the line is accepted
abbrev pub is_accepted : Reply → Bool
is_accepted (Found _) = true
is_accepted (Decided _) = true
is_accepted (Fault _) = false
is_accepted (Refused _) = false
is_accepted (BadPurl _) = false

-- the answer line, without its line feed
abbrev pub reply_line : Reply → List ℕ
reply_line (Found text) = codes "ok\t" ++ text
reply_line (Decided decision) = codes "ok\t" ++ decision_text decision
reply_line (Fault fault) = fault_line fault
reply_line (Refused refusal) = refusal_line refusal
reply_line (BadPurl fault) = purl_line fault
