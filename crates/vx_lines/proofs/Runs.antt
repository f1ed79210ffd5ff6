-- What a run over the lines of a source has read, answered and written so far, and how it ends.
use Rattle.std.proofs.Common.{◌<◌, ◌≡◌, ◌≢◌, ◌≤◌, ◌+◌, ◌⊎◌, inl, inr, ℕ, List, [], ◌∷◌, ◌++◌, Bool, true, false, Option, length, refl, sym, ap, subst, ◌∙◌, append-nil}
use Rattle.std.specs.List.{AllZip}
use Rattle.std.proofs.lemmas.Grind.{flat_map-append}
use Rattle.std.proofs.KnownBytes.{Appends-nil, Appends-trans, Consumes-nil}
use Rattle.std.specs.Io.KnownBytes.{Appends, Consumes, IsAtEnd}
use Rattle.vx_lines.specs.Output.{Says, AnswersLines, output, all_ok}
use Rattle.vx_lines.specs.Steps.Answers.{HasLines, with_feeds, IsLines, AnswersBehind, AnswersFront}
use Rattle.vx_lines.specs.Lines.{Reading}
use Rattle.vx_lines.specs.Outside.{AppendsFront}
use Rattle.vx_lines.proofs.LineCuts.{IsOpen}

-- the bytes taken are the lines given and what is held; or those lines are all, the end was seen, and nothing is held
abbrev pub IsGiven : List ℕ → List (List ℕ) → Reading → Type 0
IsGiven taken lines l = IsOpen taken lines l.held ⊎ (IsLines taken lines × (l.ended ≡ true) × (l.held ≡ []))

-- of the bytes behind the first line that waits to be written at most `piece` were taken
abbrev pub IsShort : ℕ → List ℕ → List (List ℕ) → List (List ℕ) → Type 0
IsShort piece taken written [] = Unit {0}
IsShort piece taken written (next ∷ others) = length taken ≤ length (with_feeds (written ++ next ∷ [])) + piece

-- the run so far: what was taken, the lines whose answers were written, those whose answers wait to be written
pub record Progress (says : Says) (piece : ℕ) (l : Reading) (before now old new : Option (List ℕ)) (gathered : List ℕ) (ok : Bool) : Type 0 where
  pub taken : List ℕ
  pub consumed : Consumes before now taken
  pub counted : l.taken ≡ length taken
  pub at_end : l.ended ≡ true → IsAtEnd now
  pub written : List (List ℕ)
  pub waiting : List (List ℕ)
  pub given : IsGiven taken (written ++ waiting) l
  pub short : IsShort piece taken written waiting
  pub answers : List (Bool × List ℕ)
  pub answered : AnswersLines says written answers
  pub more : List (Bool × List ℕ)
  pub answered_more : AnswersLines says waiting more
  pub gathered_is : gathered ≡ output more
  pub grown : Appends old new (output answers)
  pub all : ok ≡ all_ok (answers ++ more)

pub zip_append : {A B : Type 0} (R : A → B → Type 0) (xs us : List A) (ys vs : List B) → AllZip R xs ys → AllZip R us vs → AllZip R (xs ++ us) (ys ++ vs)
zip_append R [] us [] vs e f = f
zip_append R [] us (y ∷ ys) vs e f = absurd e
zip_append R (x ∷ xs) us [] vs e f = absurd e
zip_append R (x ∷ xs) us (y ∷ ys) vs e f = (e.0, zip_append R xs us ys vs e.1 f)

pub output_append : (a b : List (Bool × List ℕ)) → output (a ++ b) ≡ output a ++ output b
output_append a b = flat_map-append (λ answer. answer.1 ++ 10 ∷ []) a b

-- at the start
pub begun : (says : Says) (piece : ℕ) (l : Reading) (now new : Option (List ℕ)) → l.held ≡ [] → l.taken ≡ 0 → l.ended ≡ false → Progress says piece l now now new new [] true
begun says piece l now new held taken ended = record {
  taken = [];
  consumed = Consumes-nil now;
  counted = taken;
  at_end = λ e. cc (e, ended);
  written = [];
  waiting = [];
  given = inl (record { joined = sym held; each = tt });
  short = tt;
  answers = [];
  answered = tt;
  more = [];
  answered_more = tt;
  gathered_is = refl;
  grown = Appends-nil new;
  all = refl;
}

module _ (says : Says) (piece : ℕ) (l : Reading) (before now old : Option (List ℕ)) where
  -- what was gathered is written
  pub written_all : (mid new : Option (List ℕ)) (gathered : List ℕ) (ok : Bool) → Progress says piece l before now old mid gathered ok → Appends mid new gathered → Progress says piece l before now old new [] ok
  written_all mid new gathered ok p wrote = record {
    taken = p.taken;
    consumed = p.consumed;
    counted = p.counted;
    at_end = p.at_end;
    written = p.written ++ p.waiting;
    waiting = [];
    given = subst (λ lines. IsGiven p.taken lines l) (sym (append-nil (p.written ++ p.waiting))) p.given;
    short = tt;
    answers = p.answers ++ p.more;
    answered = zip_append (λ line answer. says line answer.0 answer.1) p.written p.waiting p.answers p.more p.answered p.answered_more;
    more = [];
    answered_more = tt;
    gathered_is = refl;
    grown = subst (Appends old new) (sym (output_append p.answers p.more)) (Appends-trans old mid new (output p.answers) (output p.more) p.grown (subst (Appends mid new) p.gathered_is wrote));
    all = p.all ∙ ap all_ok (sym (append-nil (p.answers ++ p.more)));
  }

  -- nothing waits where nothing is gathered
  pub none_more : (more : List (Bool × List ℕ)) → [] ≡ output more → more ≡ []
  none_more [] e = refl
  none_more ((ok, []) ∷ more) e = cc e
  none_more ((ok, x ∷ xs) ∷ more) e = cc e

  pub none_waiting : (waiting : List (List ℕ)) (more : List (Bool × List ℕ)) → more ≡ [] → AnswersLines says waiting more → waiting ≡ []
  none_waiting [] more e h = refl
  none_waiting (w ∷ waiting) [] e h = absurd h
  none_waiting (w ∷ waiting) (m ∷ more) e h = cc e

  -- What is gathered is written before a read, where no line feed is held. So nothing is gathered then, or one is held.
  pub after_write : {W : Type 0} (told : W → Option (List ℕ)) (has : Bool) (Held : Type 0) (mid new : W) (gathered rest : List ℕ) (ok : Bool)
      → Progress says piece l before now old (told mid) gathered ok → (has ≡ true → Held) → (has ≡ true → (rest ≡ gathered) × (new ≡ mid)) → (has ≡ false → (rest ≡ []) × Appends (told mid) (told new) gathered)
      → Progress says piece l before now old (told new) rest ok × ((rest ≡ []) ⊎ Held)
  after_write told true Held mid new gathered rest ok p held later wrote =
      let (same, still) = later refl in (rw (same, still) p, inr (held refl))
  after_write told false Held mid new gathered rest ok p held later wrote =
      let (none, grown) = wrote refl in (rw none (written_all (told mid) (told new) gathered ok p grown), inl none)

  -- a write of what is gathered failed
  behind_of : (limit : ℕ) → (new : Option (List ℕ)) (gathered : List ℕ) (ok : Bool) (mid : Option (List ℕ)) (p : Progress says piece l before now old mid gathered ok) → length p.taken < limit → AppendsFront mid new gathered → (waiting : List (List ℕ)) → p.waiting ≡ waiting → (waiting ≡ [] → ⊥) → HasLines p.taken (p.written ++ p.waiting) now → AnswersBehind says limit piece before now old new
  behind_of limit new gathered ok mid p below f [] e none lines = absurd (none refl)
  behind_of limit new gathered ok mid p below f (next ∷ others) e none has = record {
    taken = p.taken;
    consumed = p.consumed;
    below = below;
    lines = p.written;
    next = next;
    others = others;
    at_front = subst (λ lines. HasLines p.taken lines now) (ap (λ w. p.written ++ w) e) has;
    short = subst (IsShort piece p.taken p.written) e p.short;
    answers = p.answers;
    answered = p.answered;
    more = p.more;
    answered_more = subst (λ w. AnswersLines says w p.more) e p.answered_more;
    part = f.front;
    unwritten = f.back;
    parts = f.whole ∙ p.gathered_is;
    grown = Appends-trans old mid new (output p.answers) f.front p.grown f.grown;
  }

  has_lines : (taken : List ℕ) (lines : List (List ℕ)) → (l.ended ≡ true → IsAtEnd now) → IsGiven taken lines l → HasLines taken lines now
  has_lines taken lines at_end (inl so) = inl (l.held, so.joined, so.each)
  has_lines taken lines at_end (inr all) = inr (all.0, at_end all.1)

  some_waiting : (waiting : List (List ℕ)) (more : List (Bool × List ℕ)) (gathered : List ℕ) → gathered ≡ output more → AnswersLines says waiting more → gathered ≢ [] → waiting ≡ [] → ⊥
  some_waiting [] [] gathered e h some none = some e
  some_waiting [] (m ∷ more) gathered e h some none = absurd h
  some_waiting (w ∷ waiting) more gathered e h some none = cc none

  pub write_fails : (limit : ℕ) → l.taken < limit → (mid new : Option (List ℕ)) (gathered : List ℕ) (ok : Bool) → Progress says piece l before now old mid gathered ok → AppendsFront mid new gathered → gathered ≢ [] → AnswersBehind says limit piece before now old new
  write_fails limit below mid new gathered ok p f some = behind_of limit new gathered ok mid p (rw p.counted at below) f p.waiting refl (some_waiting p.waiting p.more gathered p.gathered_is p.answered_more some) (has_lines p.taken (p.written ++ p.waiting) p.at_end p.given)

-- nothing was done
pub front_at_start : (says : Says) (limit : ℕ) (now new : Option (List ℕ)) → 0 < limit → AnswersFront says limit now now new new
front_at_start says limit now new some = record {
  taken = [];
  consumed = Consumes-nil now;
  below = some;
  lines = [];
  at_front = inl ([], refl, tt);
  answers = [];
  answered = tt;
  grown = record { front = []; back = []; whole = refl; grown = Appends-nil new };
}
