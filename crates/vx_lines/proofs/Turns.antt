-- A turn of a run over the lines of a source: what the source gave, and how the run ends where it gives no line.
use Rattle.std.proofs.Common.{◌≡◌, ◌≢◌, ◌<◌, ◌≤◌, ◌+◌, ◌-◌, ◌⊎◌, inl, inr, ℕ, List, [], ◌∷◌, ◌++◌, Bool, true, false, Option, Some, None, length, take, refl, sym, ap, subst, ◌∙◌, arith, append_assoc, append-nil, length-append}
use Rattle.std.specs.Prelude.{◌&&◌}
use Rattle.std.proofs.lemmas.List.Folds.{list_all-append}
use Rattle.std.proofs.KnownBytes.{Consumes-trans}
use Rattle.std.specs.Io.KnownBytes.{Consumes, IsAtEnd}
use Rattle.vx_spec.specs.Marks.{Lacks}
use Rattle.vx_lines.specs.Output.{Says, output, all_ok}
use Rattle.vx_lines.specs.Steps.Answers.{HasLines, with_feeds, AnswersAll, AnswersEnded, AnswersUpTo, AnswersFront, EndsSo, end_with, IsFrontOf, Gathers}
use Rattle.vx_lines.specs.Lines.{Reading, Takes, ComesWith, IsFirstLine, bytes_behind, stays_open}
use Rattle.vx_lines.specs.declared.next_line.NextLine.{NextLine}
use Rattle.vx_lines.specs.declared.next_line.NextLine.TheVariants.{Line, TooLong, End, Failed, Limit}
use Rattle.vx_lines.proofs.LineCuts.{IsOpen, open_more, open_last, open_end, open_rest, lines_cover}
use Rattle.vx_lines.proofs.OneAnswer.{no_input}
use Rattle.vx_lines.proofs.Runs.{IsGiven, IsShort, Progress, none_more, none_waiting, output_append, zip_append}

-- what an answer that gives a line gives
pub record Found (most : ℕ) (next : NextLine) (input : List ℕ) (new : Reading) : Type 0 where
  pub front : List ℕ
  pub behind : Option (List ℕ)
  pub first : IsFirstLine new.ended input front behind
  pub is : IsFrontOf most next new.line front
  pub held : new.held ≡ bytes_behind behind
  pub below : new.taken < new.limit

pub found : (most piece : ℕ) (next : NextLine) (input : List ℕ) (new : Reading) → stays_open next ≡ true → ComesWith most piece next input new → Found most next input new
found most piece Line input new e f = record { front = f.front; behind = f.behind; first = f.first; is = f.is; held = f.held; below = f.below }
found most piece TooLong input new e f = record { front = f.front; behind = f.behind; first = f.first; is = f.is; held = f.held; below = f.below }
found most piece End input new e f = cc e
found most piece Failed input new e f = cc e
found most piece Limit input new e f = cc e

and_true : (b : Bool) → (b && true) ≡ b
and_true true = refl
and_true false = refl

no_front : (a b : List ℕ) → a ++ b ≡ [] → a ≡ []
no_front [] b e = refl
no_front (x ∷ xs) b e = cc e

-- each line takes a byte at least
taken_away : (ended : Bool) (held bytes front : List ℕ) (behind : Option (List ℕ)) → IsFirstLine ended (held ++ bytes) front behind → length (bytes_behind behind) < length held + length bytes
taken_away ended held bytes front None first = omega (arith, first.last.1, ap length first.cut.joined, length-append held bytes, length-append front [])
taken_away ended held bytes front (Some rest) first = omega (arith, ap length first.cut.joined, length-append held bytes, length-append front (10 ∷ rest))

pub smaller : (most piece : ℕ) (next : NextLine) (l new : Reading) (before now : Option (List ℕ)) → stays_open next ≡ true → l.taken < l.limit → new.limit ≡ l.limit → Takes most piece next l new before now → (new.limit - new.taken) + length new.held < (l.limit - l.taken) + length l.held
smaller most piece next l new before now e below same takes =
    let f = found most piece next (l.held ++ takes.bytes) new e takes.comes in
    let less = taken_away new.ended l.held takes.bytes f.front f.behind f.first in
    omega (arith, less, below, same, takes.counted, f.below, ap length f.held)

module _ (says : Says) (most piece : ℕ) (l new : Reading) (before mid now old held : Option (List ℕ)) (next : NextLine) (gathered : List ℕ) (ok : Bool)
    (p : Progress says piece l before mid old held gathered ok)
    (takes : Takes most piece next l new mid now)
    (same : l.ended ≡ true → now ≡ mid) where
  -- what was taken by now
  all_taken : List ℕ
  all_taken = p.taken ++ takes.bytes

  consumed : Consumes before now (p.taken ++ takes.bytes)
  consumed = Consumes-trans before mid now p.taken takes.bytes p.consumed takes.consumed

  counted : new.taken ≡ length (p.taken ++ takes.bytes)
  counted = omega (arith, takes.counted, p.counted, length-append p.taken takes.bytes)

  at_end : new.ended ≡ true → IsAtEnd now
  at_end e = elim (takes.at_end e) [
    | inl before_it ↦ rw (same before_it.0) (p.at_end before_it.0)
    | inr end ↦ end
  ]

  more_lines : (lines : List (List ℕ)) → IsGiven p.taken lines l → HasLines (p.taken ++ takes.bytes) lines now
  more_lines lines (inl so) = inl (l.held ++ takes.bytes, ap (λ t. t ++ takes.bytes) so.joined ∙ append_assoc (with_feeds lines) l.held takes.bytes, so.each)
  more_lines lines (inr all) = inr (rw (takes.unread (inl all.1), append-nil p.taken) all.0, rw (same all.1) (p.at_end all.1))

  -- no memory was found for the answer
  pub front_of : (limit : ℕ) → new.limit ≡ limit → new.taken < new.limit → AnswersFront says limit before now old held
  front_of limit is below = record {
    taken = p.taken ++ takes.bytes;
    consumed = consumed;
    below = omega (arith, counted, below, is);
    lines = p.written ++ p.waiting;
    at_front = more_lines (p.written ++ p.waiting) p.given;
    answers = p.answers ++ p.more;
    answered = zip_append (λ line answer. says line answer.0 answer.1) p.written p.waiting p.answers p.more p.answered p.answered_more;
    grown = record { front = output p.answers; back = output p.more; whole = sym (output_append p.answers p.more); grown = p.grown };
  }

  -- nothing waits where nothing is gathered
  no_more : gathered ≡ [] → p.more ≡ []
  no_more none = none_more says piece l before mid old p.more (sym none ∙ p.gathered_is)

  no_waiting : gathered ≡ [] → p.waiting ≡ []
  no_waiting none = none_waiting says piece l before mid old p.waiting p.more (no_more none) p.answered_more

  given_now : gathered ≡ [] → IsGiven p.taken p.written l
  given_now none = subst (λ lines. IsGiven p.taken lines l) (ap (λ w. p.written ++ w) (no_waiting none) ∙ append-nil p.written) p.given

  all_now : gathered ≡ [] → ok ≡ all_ok p.answers
  all_now none = p.all ∙ ap all_ok (ap (λ m. p.answers ++ m) (no_more none) ∙ append-nil p.answers)

  -- the end of the source
  pub at_the_end : (limit : ℕ) → new.limit ≡ limit → gathered ≡ [] → l.held ++ takes.bytes ≡ [] → new.ended ≡ true → new.taken < new.limit → AnswersAll says limit ok before now old held
  at_the_end limit is none empty ended below = record {
    taken = p.taken ++ takes.bytes;
    consumed = consumed;
    at_end = at_end ended;
    below = omega (arith, counted, below, is);
    lines = p.written;
    are = elim (given_now none) [
      | inl so ↦ open_end p.taken takes.bytes p.written l.held so empty
      | inr all ↦ rw (takes.unread (inl all.1), append-nil p.taken) all.0
    ];
    answers = p.answers;
    answered = p.answered;
    all = all_now none;
    grown = p.grown;
  }

  pub ended_with : (limit : ℕ) (is_ok : Bool) → AnswersAll says limit is_ok before now old held → EndsSo says limit piece (end_with is_ok End) before now old held
  ended_with limit true all = all
  ended_with limit false all = all

  -- a read failed
  pub at_a_fault : (limit : ℕ) → new.limit ≡ limit → gathered ≡ [] → Lacks 10 (l.held ++ takes.bytes) → new.ended ≡ false → new.taken < new.limit → AnswersEnded says limit before now old held
  at_a_fault limit is none lacks more below = elim (given_now none) [
    | inl so ↦ record {
      taken = p.taken ++ takes.bytes;
      consumed = consumed;
      lines = p.written;
      rest = l.held ++ takes.bytes;
      cut = open_rest p.taken takes.bytes p.written l.held so lacks;
      below = omega (arith, counted, below, is);
      answers = p.answers;
      answered = p.answered;
      grown = p.grown;
    }
    | inr all ↦ cc (takes.stays_ended all.1, more)
  ]

  -- the limit was reached
  pub at_the_limit : (limit : ℕ) → new.limit ≡ limit → gathered ≡ [] → new.taken ≡ new.limit → new.ended ≡ false → Lacks 10 (take (length (l.held ++ takes.bytes) - piece) (l.held ++ takes.bytes)) → AnswersUpTo says limit piece before now old held
  at_the_limit limit is none full more lacks = elim (given_now none) [
    | inl so ↦ record {
      taken = p.taken ++ takes.bytes;
      consumed = consumed;
      full = sym counted ∙ full ∙ is;
      lines = p.written;
      rest = l.held ++ takes.bytes;
      joined = ap (λ t. t ++ takes.bytes) so.joined ∙ append_assoc (with_feeds p.written) l.held takes.bytes;
      each = so.each;
      none = lacks;
      answers = p.answers;
      answered = p.answered;
      grown = p.grown;
    }
    | inr all ↦ cc (takes.stays_ended all.1, more)
  ]

  -- one line more was given
  module _ (f : Found most next (l.held ++ takes.bytes) new) (short : length new.held ≤ piece) where
    given_more : (lines : List (List ℕ)) → IsGiven p.taken lines l → (behind : Option (List ℕ)) → f.behind ≡ behind → IsGiven (p.taken ++ takes.bytes) (lines ++ f.front ∷ []) new
    given_more lines (inr all) behind e =
        absurd (no_input most (l.held ++ takes.bytes) new f.front f.behind (rw (all.2, takes.unread (inl all.1)) at f.first))
    given_more lines (inl so) (Some rest) e =
        let held : new.held ≡ rest = f.held ∙ ap bytes_behind e in
        inl (subst (IsOpen (p.taken ++ takes.bytes) (lines ++ f.front ∷ [])) (sym held) (open_more p.taken takes.bytes lines l.held f.front rest so (rw e at f.first.cut)))
    given_more lines (inl so) None e =
        let first = rw e at f.first in
        inr (open_last p.taken takes.bytes lines l.held f.front so first.cut first.last.1, first.last.0, f.held ∙ ap bytes_behind e)

    -- the bytes behind the first line that waits
    length_of : (lines : List (List ℕ)) → IsGiven (p.taken ++ takes.bytes) (lines ++ f.front ∷ []) new → length (p.taken ++ takes.bytes) ≤ length (with_feeds (lines ++ f.front ∷ [])) + piece
    length_of lines (inl so) = omega (arith, ap length so.joined, length-append (with_feeds (lines ++ f.front ∷ [])) new.held, short)
    length_of lines (inr all) =
        let cover = lines_cover (p.taken ++ takes.bytes) (lines ++ f.front ∷ []) all.0 in
        omega (arith, cover)

    short_more : (waiting : List (List ℕ)) → p.waiting ≡ waiting → (gathered ≡ []) ⊎ ¬ Lacks 10 l.held → IsGiven (p.taken ++ takes.bytes) ((p.written ++ waiting) ++ f.front ∷ []) new → IsShort piece (p.taken ++ takes.bytes) p.written (waiting ++ f.front ∷ [])
    short_more [] e fresh given = length_of p.written (rw (append-nil p.written) at given)
    short_more (w ∷ ws) e (inl none) given = cc (e, no_waiting none)
    short_more (w ∷ ws) e (inr has) given =
        let none = takes.unread (inr has) in
        let before_it : IsShort piece p.taken p.written (w ∷ ws) = subst (IsShort piece p.taken p.written) e p.short in
        rw (none, append-nil p.taken) before_it

    pub gave : (gathered_now : List ℕ) (is_ok : Bool) → (gathered ≡ []) ⊎ ¬ Lacks 10 l.held → Gathers says most next new.line gathered gathered_now is_ok → Progress says piece new before now old held gathered_now (ok && is_ok)
    gave gathered_now is_ok fresh more =
        let given = given_more (p.written ++ p.waiting) p.given f.behind refl in
        record {
          taken = p.taken ++ takes.bytes;
          consumed = consumed;
          counted = counted;
          at_end = at_end;
          written = p.written;
          waiting = p.waiting ++ f.front ∷ [];
          given = subst (λ lines. IsGiven (p.taken ++ takes.bytes) lines new) (append_assoc p.written p.waiting (f.front ∷ [])) given;
          short = short_more p.waiting refl fresh given;
          answers = p.answers;
          answered = p.answered;
          more = p.more ++ (is_ok, more.text) ∷ [];
          answered_more = zip_append (λ line answer. says line answer.0 answer.1) p.waiting (f.front ∷ []) p.more ((is_ok, more.text) ∷ []) p.answered_more (more.said f.front f.is, tt);
          gathered_is = more.grown ∙ ap (λ g. g ++ (more.text ++ 10 ∷ [])) p.gathered_is ∙ ap (λ m. output p.more ++ m) (sym (append-nil (more.text ++ 10 ∷ []))) ∙ sym (output_append p.more ((is_ok, more.text) ∷ []));
          grown = p.grown;
          all = ok_more is_ok more.text;
        }
      where
        ok_more : (is_ok : Bool) (text : List ℕ) → (ok && is_ok) ≡ all_ok (p.answers ++ (p.more ++ (is_ok, text) ∷ []))
        ok_more is_ok text =
            let parts = list_all-append (λ answer. answer.0) (p.answers ++ p.more) ((is_ok, text) ∷ []) in
            let whole = ap all_ok (append_assoc p.answers p.more ((is_ok, text) ∷ [])) in
            sym (sym whole ∙ parts ∙ rw (← p.all) (ap (λ b. ok && b) (and_true is_ok)))

-- With nothing gathered, or with a line held, the run ends as the source does; with a line held the source does not.
pub ends : (says : Says) (most piece limit : ℕ) (l new : Reading) (before mid now old held : Option (List ℕ)) (next : NextLine) (gathered : List ℕ) (ok : Bool) → Progress says piece l before mid old held gathered ok → Takes most piece next l new mid now → (l.ended ≡ true → now ≡ mid) → new.limit ≡ limit → l.taken < l.limit → l.limit ≡ limit → stays_open next ≡ false → (gathered ≡ []) ⊎ ¬ Lacks 10 l.held → EndsSo says limit piece (end_with ok next) before now old held
ends says most piece limit l new before mid now old held Line gathered ok p takes same is below was e fresh = cc e
ends says most piece limit l new before mid now old held TooLong gathered ok p takes same is below was e fresh = cc e
ends says most piece limit l new before mid now old held End gathered ok p takes same is below was e (inl none) =
    let (empty, ended, under) = takes.comes in
    ended_with says most piece l new before mid now old held End gathered ok p takes same limit ok
    (at_the_end says most piece l new before mid now old held End gathered ok p takes same limit is none empty ended under)
ends says most piece limit l new before mid now old held End gathered ok p takes same is below was e (inr has) =
    absurd (has (subst (Lacks 10) (sym (no_front l.held takes.bytes takes.comes.0)) tt))
ends says most piece limit l new before mid now old held Failed gathered ok p takes same is below was e (inl none) =
    at_a_fault says most piece l new before mid now old held Failed gathered ok p takes same limit is none takes.comes.0 takes.comes.1 takes.comes.2
ends says most piece limit l new before mid now old held Failed gathered ok p takes same is below was e (inr has) =
    absurd (has (rw (takes.unread (inr has), append-nil l.held) at takes.comes.0))
ends says most piece limit l new before mid now old held Limit gathered ok p takes same is below was e (inl none) =
    at_the_limit says most piece l new before mid now old held Limit gathered ok p takes same limit is none takes.comes.0 takes.comes.1 takes.comes.2
ends says most piece limit l new before mid now old held Limit gathered ok p takes same is below was e (inr has) =
    absurd (omega (arith, ap length (takes.unread (inr has)), takes.counted, takes.comes.0, is, below, was))

pub not_failed : (next : NextLine) → stays_open next ≡ true → next ≢ Failed
not_failed Line e f = cc f
not_failed TooLong e f = cc f
not_failed End e f = cc f
not_failed Failed e f = cc e
not_failed Limit e f = cc f
