-- The output of bytes that are cut at their line feeds, and what a run tells of it when it ends.
use Rattle.std.proofs.Common.{◌≡◌, ◌≢◌, ◌≤◌, ◌+◌, ◌-◌, ◌⊎◌, inl, inr, ℕ, zero, suc, List, [], ◌∷◌, ◌++◌, Bool, true, false, Option, length, take, nat_lt, refl, sym, ap, subst, ◌∙◌, arith, append_assoc, append-nil, length-append}
use Rattle.std.specs.Prelude.{◌==◌, ◌||◌}
use Rattle.std.specs.List.{AllByRecursion, list_any}
use Rattle.std.specs.Io.KnownBytes.{Appends}
use Rattle.std.proofs.lemmas.List.{take-append-le, take_all}
use Rattle.std.proofs.lemmas.Grind.{flat_map-append}
use Rattle.vx_spec.specs.Marks.{Lacks}
use Rattle.vx_lines.specs.Output.{Says, AnswersLines, output, all_ok, lines, ended, IsOutput, GetsOutput, GetsMore, GetsFront, KeepsUp, Ran}
use Rattle.vx_lines.specs.Steps.Answers.{with_feeds, last_line, IsLines, HasLines, AnswersAll, AnswersUpTo, AnswersBehind, EndsSo}
use Rattle.vx_lines.specs.Outside.{AppendsFront}
use Rattle.vx_lines.specs.declared.loop_end.LoopEnd.{LoopEnd}
use Rattle.vx_lines.specs.declared.loop_end.LoopEnd.TheVariants.{Done, Refused, ReadFault, WriteFault, NoMemory, InputLimit}
use Rattle.vx_lines.proofs.Held.{take_append}
use Rattle.vx_lines.proofs.LineCuts.{feeds_more}
use Rattle.vx_lines.proofs.Runs.{output_append, zip_append}

no_feed_at : (byte : ℕ) → byte ≢ 10 → (byte == 10) ≡ false
no_feed_at byte other = grind (arith, other)

-- a text without a line feed is one line, or none where it is empty
lines_rest : (rest : List ℕ) → Lacks 10 rest → lines rest ≡ last_line rest
lines_rest [] h = refl
lines_rest (x ∷ []) h = rw (no_feed_at x h.0) refl
lines_rest (x ∷ y ∷ rest) h = rw (no_feed_at x h.0, lines_rest (y ∷ rest) h.1) refl

lines_first : (line more : List ℕ) → Lacks 10 line → lines ((line ++ 10 ∷ []) ++ more) ≡ line ∷ lines more
lines_first [] more h = refl
lines_first (x ∷ line) more h = rw (no_feed_at x h.0, lines_first line more h.1) refl

pub lines_are : (whole : List (List ℕ)) (rest : List ℕ) → AllByRecursion (Lacks 10) whole → Lacks 10 rest → lines (with_feeds whole ++ rest) ≡ whole ++ last_line rest
lines_are [] rest each none = lines_rest rest none
lines_are (line ∷ whole) rest each none =
    rw (append_assoc (line ++ 10 ∷ []) (with_feeds whole) rest, lines_first line (with_feeds whole ++ rest) each.0, lines_are whole rest each.1 none) refl

-- the part up to the last line feed
has_feed : (front more : List ℕ) → list_any (λ b. b == 10) ((front ++ 10 ∷ []) ++ more) ≡ true
has_feed [] more = refl
has_feed (x ∷ front) more = rw (has_feed front more) (or_true (x == 10))
  where
    or_true : (b : Bool) → (b || true) ≡ true
    or_true true = refl
    or_true false = refl

ended_first : (front more : List ℕ) → ended ((front ++ 10 ∷ []) ++ more) ≡ (front ++ 10 ∷ []) ++ ended more
ended_first [] more = refl
ended_first (x ∷ front) more = rw (has_feed (x ∷ front) more, ended_first front more) refl

lacks_any : (rest : List ℕ) → Lacks 10 rest → list_any (λ b. b == 10) rest ≡ false
lacks_any [] h = refl
lacks_any (x ∷ rest) h = rw (no_feed_at x h.0, lacks_any rest h.1) refl

pub ended_none : (rest : List ℕ) → Lacks 10 rest → ended rest ≡ []
ended_none [] h = refl
ended_none (x ∷ rest) h = rw (lacks_any (x ∷ rest) h) refl

pub ended_more : (whole : List (List ℕ)) (rest : List ℕ) → ended (with_feeds whole ++ rest) ≡ with_feeds whole ++ ended rest
ended_more [] rest = refl
ended_more (line ∷ whole) rest =
    rw (append_assoc (line ++ 10 ∷ []) (with_feeds whole) rest, ended_first line (with_feeds whole ++ rest), ended_more whole rest)
    (sym (append_assoc (line ++ 10 ∷ []) (with_feeds whole) (ended rest)))

pub ended_whole : (whole : List (List ℕ)) → ended (with_feeds whole) ≡ with_feeds whole
ended_whole whole = ap ended (sym (append-nil (with_feeds whole))) ∙ ended_more whole [] ∙ append-nil (with_feeds whole)

pub lines_whole : (whole : List (List ℕ)) → AllByRecursion (Lacks 10) whole → lines (with_feeds whole) ≡ whole
lines_whole whole each = ap lines (sym (append-nil (with_feeds whole))) ∙ lines_are whole [] each tt ∙ append-nil whole

pub lines_of : (bytes : List ℕ) (found : List (List ℕ)) → IsLines bytes found → lines bytes ≡ found
lines_of bytes found is = ap lines is.cut.joined ∙ lines_are is.whole is.rest is.cut.each is.cut.none ∙ sym is.are

module _ (says : Says) where
  output_of : (bytes : List ℕ) (found : List (List ℕ)) (answers : List (Bool × List ℕ)) → lines bytes ≡ found → AnswersLines says found answers → IsOutput says bytes (all_ok answers) (output answers)
  output_of bytes found answers e answered = record {
    answers = answers;
    each = subst (λ ls. AnswersLines says ls answers) (sym e) answered;
    accepted = refl;
    printed = refl;
  }

  -- a front of the answers to lines at the front of the bytes
  front_of : (bytes : List ℕ) (found : List (List ℕ)) (answers : List (Bool × List ℕ)) (now old new : Option (List ℕ)) → HasLines bytes found now → AnswersLines says found answers → AppendsFront old new (output answers) → GetsFront says bytes now old new
  front_of bytes found answers now old new (inl (rest, joined, each)) answered grown = record {
    answered = with_feeds found;
    rest = rest;
    split = joined;
    whole = inr (ended_whole found);
    ok = all_ok answers;
    out = output answers;
    output = output_of (with_feeds found) found answers (lines_whole found each) answered;
    front = grown;
  }
  front_of bytes found answers now old new (inr (is, at_end)) answered grown = record {
    answered = bytes;
    rest = [];
    split = sym (append-nil bytes);
    whole = inl (refl, at_end);
    ok = all_ok answers;
    out = output answers;
    output = output_of bytes found answers (lines_of bytes found is) answered;
    front = grown;
  }

  exact : (answers : List (Bool × List ℕ)) (old new : Option (List ℕ)) → Appends old new (output answers) → AppendsFront old new (output answers)
  exact answers old new grown = record { front = output answers; back = []; whole = append-nil (output answers); grown = grown }

-- ---- the line that follows those that were answered

-- a line that follows others is the last one, or a line feed ends it
next_line : (done : List (List ℕ)) (next : List ℕ) (others whole : List (List ℕ)) (rest : List ℕ) → done ++ next ∷ others ≡ whole ++ last_line rest
    → ((whole ≡ done) × (rest ≡ next)) ⊎ ((ws : List (List ℕ)) × (whole ≡ done ++ next ∷ ws))
next_line [] next others [] [] e = cc e
next_line [] next others [] (x ∷ rest) e = inl (refl, cc e)
next_line [] next others (w ∷ whole) rest e = inr (whole, cc e)
next_line (d ∷ done) next others [] [] e = cc e
next_line (d ∷ []) next others [] (x ∷ rest) e = cc e
next_line (d ∷ d2 ∷ done) next others [] (x ∷ rest) e = cc e
next_line (d ∷ done) next others (w ∷ whole) rest e = elim (next_line done next others whole rest (cc e)) [
  | inl last ↦ inl (cc (last.0, e), last.1)
  | inr more ↦ inr (more.0, cc (more.1, e))
]

each_front : (a b : List (List ℕ)) → AllByRecursion (Lacks 10) (a ++ b) → AllByRecursion (Lacks 10) a
each_front [] b h = tt
each_front (x ∷ a) b h = (h.0, each_front a b h.1)

each_back : (a b : List (List ℕ)) → AllByRecursion (Lacks 10) (a ++ b) → AllByRecursion (Lacks 10) b
each_back [] b h = h
each_back (x ∷ a) b h = each_back a b h.1

module _ (says : Says) (limit piece : ℕ) (before now old new : Option (List ℕ)) (b : AnswersBehind says limit piece before now old new) where
  got_done : AllByRecursion (Lacks 10) b.lines → GetsMore says (with_feeds b.lines) old new
  got_done each = (all_ok b.answers, output b.answers, output_of says (with_feeds b.lines) b.lines b.answers (lines_whole b.lines each) b.answered, (b.part, b.grown))

  -- a line feed ends the next line
  with_feed_behind : (others : List (List ℕ)) (rest : List ℕ) → b.taken ≡ with_feeds (b.lines ++ b.next ∷ others) ++ rest → AllByRecursion (Lacks 10) (b.lines ++ b.next ∷ others) → KeepsUp says piece b.taken old new
  with_feed_behind others rest joined each =
      let parts : b.taken ≡ with_feeds b.lines ++ ((b.next ++ 10 ∷ []) ++ (with_feeds others ++ rest)) =
      joined ∙ ap (λ l. l ++ rest) (flat_map-append (λ l. l ++ 10 ∷ []) b.lines (b.next ∷ others))
      ∙ append_assoc (with_feeds b.lines) ((b.next ++ 10 ∷ []) ++ with_feeds others) rest
      ∙ ap (λ l. with_feeds b.lines ++ l) (append_assoc (b.next ++ 10 ∷ []) (with_feeds others) rest) in
      record {
        done = with_feeds b.lines;
        line = b.next ++ 10 ∷ [];
        behind = with_feeds others ++ rest;
        split = parts;
        whole = ended_whole b.lines;
        one = inl (b.next, refl, (each_back b.lines (b.next ∷ others) each).0);
        few = omega (arith, ap length parts, b.short, ap length (feeds_more b.lines b.next), length-append (with_feeds b.lines) (b.next ++ 10 ∷ []), length-append (with_feeds b.lines) ((b.next ++ 10 ∷ []) ++ (with_feeds others ++ rest)), length-append (b.next ++ 10 ∷ []) (with_feeds others ++ rest));
        got = got_done (each_front b.lines (b.next ∷ others) each);
      }

  -- the next line ends the bytes
  last_behind : (rest : List ℕ) → b.taken ≡ with_feeds b.lines ++ rest → AllByRecursion (Lacks 10) b.lines → Lacks 10 rest → KeepsUp says piece b.taken old new
  last_behind rest joined each none = record {
    done = with_feeds b.lines;
    line = rest;
    behind = [];
    split = joined ∙ ap (λ l. with_feeds b.lines ++ l) (sym (append-nil rest));
    whole = ended_whole b.lines;
    one = inr (none, refl);
    few = omega arith;
    got = got_done each;
  }

  keeps_up : HasLines b.taken (b.lines ++ b.next ∷ b.others) now → KeepsUp says piece b.taken old new
  keeps_up (inl (rest, joined, each)) = with_feed_behind b.others rest joined each
  keeps_up (inr (is, at_end)) = elim (next_line b.lines b.next b.others is.whole is.rest is.are) [
    | inl last ↦ last_behind is.rest (rw last.0 at is.cut.joined) (rw last.0 at is.cut.each) is.cut.none
    | inr more ↦ with_feed_behind more.0 is.rest (rw more.1 at is.cut.joined) (rw more.1 at is.cut.each)
  ]

  pub keeps : KeepsUp says piece b.taken old new
  keeps = keeps_up b.at_front

-- ---- the lines that end before the last bytes

-- a front of lines and a rest, up to a place where no line feed follows them
record Front (says : Says) (bytes : List ℕ) (answers : List (Bool × List ℕ)) : Type 0 where
  pub found : List (List ℕ)
  pub each : AllByRecursion (Lacks 10) found
  pub some : List (Bool × List ℕ)
  pub answered : AnswersLines says found some
  pub is : ended bytes ≡ with_feeds found
  pub more : List ℕ
  pub whole : output answers ≡ output some ++ more

no_front : (says : Says) (bytes : List ℕ) (answers : List (Bool × List ℕ)) → Lacks 10 bytes → Front says bytes answers
no_front says bytes answers none = record { found = []; each = tt; some = []; answered = tt; is = ended_none bytes none; more = output answers; whole = refl }

lacks_take : (n : ℕ) (text : List ℕ) → Lacks 10 text → Lacks 10 (take n text)
lacks_take zero text h = tt
lacks_take (suc n) [] h = tt
lacks_take (suc n) (x ∷ xs) h = (h.0, lacks_take n xs h.1)

-- the first line stands whole before the place
front_more : (says : Says) (line rest : List ℕ) (answer : Bool × List ℕ) (answers : List (Bool × List ℕ)) → Lacks 10 line → says line answer.0 answer.1 → Front says rest answers → Front says ((line ++ 10 ∷ []) ++ rest) (answer ∷ answers)
front_more says line rest answer answers lacks said f = record {
  found = line ∷ f.found;
  each = (lacks, f.each);
  some = answer ∷ f.some;
  answered = (said, f.answered);
  is = ended_first line rest ∙ ap (λ l. (line ++ 10 ∷ []) ++ l) f.is;
  more = f.more;
  whole = ap (λ l. (answer.1 ++ 10 ∷ []) ++ l) f.whole ∙ sym (append_assoc (answer.1 ++ 10 ∷ []) (output f.some) f.more);
}

module _ (says : Says) (n : ℕ) (line : List ℕ) (found : List (List ℕ)) (rest : List ℕ) (a : Bool × List ℕ) (answers : List (Bool × List ℕ)) where
  first_whole : with_feeds (line ∷ found) ++ rest ≡ (line ++ 10 ∷ []) ++ (with_feeds found ++ rest)
  first_whole = append_assoc (line ++ 10 ∷ []) (with_feeds found) rest

  by_length : (less : Bool) → nat_lt n (length (line ++ 10 ∷ [])) ≡ less → Lacks 10 line → says line a.0 a.1
      → (Lacks 10 (take ((n - length (line ++ 10 ∷ [])) - length (with_feeds found)) rest) → Front says (take (n - length (line ++ 10 ∷ [])) (with_feeds found ++ rest)) answers)
      → Lacks 10 (take (n - length (with_feeds (line ∷ found))) rest) → Front says (take n (with_feeds (line ∷ found) ++ rest)) (a ∷ answers)
  by_length true e lacks said again none =
      let short : n ≤ length line = grind (arith, e, length-append line (10 ∷ [])) in
      let cut : take n (with_feeds (line ∷ found) ++ rest) ≡ take n line =
      ap (take n) (first_whole ∙ append_assoc line (10 ∷ []) (with_feeds found ++ rest)) ∙ take-append-le n line ((10 ∷ []) ++ (with_feeds found ++ rest)) short in
      rw cut (no_front says (take n line) (a ∷ answers) (lacks_take n line lacks))
  by_length false e lacks said again none =
      let size = length (line ++ 10 ∷ []) in
      let long : size ≤ n = grind (arith, e) in
      let same : take n (line ++ 10 ∷ []) ≡ line ++ 10 ∷ [] = take_all n (line ++ 10 ∷ []) long in
      let cut : take n (with_feeds (line ∷ found) ++ rest) ≡ (line ++ 10 ∷ []) ++ take (n - size) (with_feeds found ++ rest) =
      ap (take n) first_whole ∙ take_append n (line ++ 10 ∷ []) (with_feeds found ++ rest) ∙ ap (λ l. l ++ take (n - size) (with_feeds found ++ rest)) same in
      let less : n - length (with_feeds (line ∷ found)) ≡ (n - size) - length (with_feeds found) = omega (arith, length-append (line ++ 10 ∷ []) (with_feeds found)) in
      rw cut (front_more says line (take (n - size) (with_feeds found ++ rest)) a answers lacks said (again (subst (λ m. Lacks 10 (take m rest)) less none)))

front_at : (says : Says) (n : ℕ) (found : List (List ℕ)) (rest : List ℕ) (answers : List (Bool × List ℕ)) → AllByRecursion (Lacks 10) found → AnswersLines says found answers → Lacks 10 (take (n - length (with_feeds found)) rest) → Front says (take n (with_feeds found ++ rest)) answers
front_at says n [] rest [] each answered none = no_front says (take n rest) [] (subst (λ m. Lacks 10 (take m rest)) (omega arith) none)
front_at says n [] rest (a ∷ answers) each answered none = absurd answered
front_at says n (line ∷ found) rest [] each answered none = absurd answered
front_at says n (line ∷ found) rest (a ∷ answers) each answered none =
    by_length says n line found rest a answers (nat_lt n (length (line ++ 10 ∷ []))) refl each.0 answered.0 (λ less. front_at says (n - length (line ++ 10 ∷ [])) found rest answers each.1 answered.1 less) none

module _ (says : Says) (limit piece : ℕ) (before now old new : Option (List ℕ)) where
  -- the limit was reached
  module _ (b : AnswersUpTo says limit piece before now old new) where
    front_before : Front says (take (length b.taken - piece) b.taken) b.answers
    front_before =
        let size : length b.taken ≡ length (with_feeds b.lines) + length b.rest = ap length b.joined ∙ length-append (with_feeds b.lines) b.rest in
        let behind : (length b.taken - piece) - length (with_feeds b.lines) ≡ length b.rest - piece = omega (arith, size) in
        subst (λ bytes. Front says (take (length b.taken - piece) bytes) b.answers) (sym b.joined)
        (front_at says (length b.taken - piece) b.lines b.rest b.answers b.each b.answered (subst (λ m. Lacks 10 (take m b.rest)) (sym behind) b.none))

    got_before : GetsMore says (ended (take (length b.taken - piece) b.taken)) old new
    got_before =
        let f = front_before in (
          all_ok f.some,
          output f.some,
          subst (λ bytes. IsOutput says bytes (all_ok f.some) (output f.some)) (sym f.is) (output_of says (with_feeds f.found) f.found f.some (lines_whole f.found f.each) f.answered),
          (f.more, subst (Appends old new) f.whole b.grown),
        )

    front_ended : GetsFront says (ended b.taken) now old new
    front_ended = front_of says (ended b.taken) b.lines b.answers now old new
        (inl (ended b.rest, ap ended b.joined ∙ ended_more b.lines b.rest, b.each)) b.answered (exact says b.answers old new b.grown)

    limit_ran : Ran says piece limit InputLimit before now old new
    limit_ran = record {
      bytes = b.taken;
      consumed = b.consumed;
      below = λ other. absurd (other refl);
      ends = (b.full, got_before, front_ended);
      front = front_of says b.taken b.lines b.answers now old new (inl (b.rest, b.joined, b.each)) b.answered (exact says b.answers old new b.grown);
    }

  all_front : (ok : Bool) (b : AnswersAll says limit ok before now old new) → GetsFront says b.taken now old new
  all_front ok b = front_of says b.taken b.lines b.answers now old new (inr (b.are, b.at_end)) b.answered (exact says b.answers old new b.grown)

  all_got : (ok : Bool) (b : AnswersAll says limit ok before now old new) → GetsOutput says b.taken ok old new
  all_got ok b =
      (output b.answers, subst (λ is_ok. IsOutput says b.taken is_ok (output b.answers)) (sym b.all) (output_of says b.taken b.lines b.answers (lines_of b.taken b.lines b.are) b.answered), b.grown)

  pub ran : (end : LoopEnd) → EndsSo says limit piece end before now old new → Ran says piece limit end before now old new
  ran Done b = record { bytes = b.taken; consumed = b.consumed; below = λ _. b.below; ends = (b.at_end, b.below, all_got true b); front = all_front true b }
  ran Refused b = record { bytes = b.taken; consumed = b.consumed; below = λ _. b.below; ends = (b.at_end, b.below, all_got false b); front = all_front false b }
  ran ReadFault b =
      let is : ended b.taken ≡ with_feeds b.lines =
      ap ended b.cut.joined ∙ ended_more b.lines b.rest ∙ ap (λ l. with_feeds b.lines ++ l) (ended_none b.rest b.cut.none) ∙ append-nil (with_feeds b.lines) in
      record {
        bytes = b.taken;
        consumed = b.consumed;
        below = λ _. b.below;
        ends = (
          b.below,
          (
            all_ok b.answers,
            (
              output b.answers,
              subst (λ bytes. IsOutput says bytes (all_ok b.answers) (output b.answers)) (sym is) (output_of says (with_feeds b.lines) b.lines b.answers (lines_whole b.lines b.cut.each) b.answered),
              b.grown,
            ),
          ),
        );
        front = front_of says b.taken b.lines b.answers now old new (inl (b.rest, b.cut.joined, b.cut.each)) b.answered (exact says b.answers old new b.grown);
      }
  ran WriteFault b = record {
    bytes = b.taken;
    consumed = b.consumed;
    below = λ _. b.below;
    ends = keeps says limit piece before now old new b;
    front = front_of says b.taken (b.lines ++ b.next ∷ b.others) (b.answers ++ b.more) now old new b.at_front
        (zip_append (λ line answer. says line answer.0 answer.1) b.lines (b.next ∷ b.others) b.answers b.more b.answered b.answered_more)
        (record { front = output b.answers ++ b.part; back = b.unwritten; whole = append_assoc (output b.answers) b.part b.unwritten ∙ ap (λ l. output b.answers ++ l) b.parts ∙ sym (output_append b.answers b.more); grown = b.grown });
  }
  ran NoMemory b = record { bytes = b.taken; consumed = b.consumed; below = λ _. b.below; ends = tt; front = front_of says b.taken b.lines b.answers now old new b.at_front b.answered b.grown }
  ran InputLimit b = limit_ran b
