-- What a call of `next_line` has collected so far, and how it ends.
use Rattle.std.proofs.Common.{◌≡◌, ◌⊎◌, inl, ℕ, ◌+◌, ◌-◌, ◌<◌, ◌≤◌, List, [], ◌∷◌, ◌++◌, Bool, true, false, Option, Some, None, is_some, length, take, refl, sym, ap, subst, ◌∙◌, arith, append_assoc, append-nil, length-append, nat_lt, inr, zero, suc, IfNone, ◌≢◌}
use Rattle.std.proofs.lemmas.List.{take-append-le}
use Rattle.std.proofs.KnownBytes.{Consumes-nil, Consumes-trans}
use Rattle.std.specs.Io.KnownBytes.{Consumes, IsAtEnd}
use Rattle.vx_spec.specs.Marks.{Lacks, marked}
use Rattle.vx_spec.proofs.EndLaws.{lacks_append}
use Rattle.vx_lines.specs.Lines.{Takes, IsFirstLine, ComesWith, bytes_behind}
use Rattle.vx_lines.specs.Steps.Buffers.{held_of, reading_of, IsKept, SameSizes, SameCounts, SameLine, TakesFront, IsFilled, line_found}
use Rattle.vx_lines.specs.declared.buffers.Buffers.{Buffers}
use Rattle.vx_lines.specs.declared.buffers.Filled.{Filled}
use Rattle.vx_lines.specs.declared.next_line.NextLine.TheVariants.{End, Failed, Limit}
use Rattle.vx_lines.proofs.Held.{short_front, long_front}

-- the bytes that were taken, and the front that is known to lack a line feed
pub record Collected (old b : Buffers) (before now : Option (List ℕ)) : Type 0 where
  pub bytes : List ℕ
  pub front : List ℕ
  pub consumed : Consumes before now bytes
  pub split : held_of old ++ bytes ≡ front ++ held_of b
  pub lacks : Lacks 10 front
  pub kept : IsKept b.most b.line.items b.is_long front
  pub counted : b.taken ≡ old.taken + length bytes
  pub sizes : SameSizes old b
  pub fresh : (bytes ≡ []) ⊎ Lacks 10 (held_of old)

take_none : (n : ℕ) → take {A = ℕ} n [] ≡ []
take_none zero = refl
take_none (suc n) = refl

-- no bytes were taken where the end was seen before, or where a line feed was held
unread_from : (old : Buffers) (bytes : List ℕ) → old.ended ≡ false → (bytes ≡ []) ⊎ Lacks 10 (held_of old) → (old.ended ≡ true) ⊎ ¬ Lacks 10 (held_of old) → bytes ≡ []
unread_from old bytes more (inl none) h = none
unread_from old bytes more (inr lacks) (inl e) = cc (e, more)
unread_from old bytes more (inr lacks) (inr has) = absurd (has lacks)

pub no_items : (items : List ℕ) → length items ≡ 0 → items ≡ []
no_items [] e = refl
no_items (x ∷ xs) e = absurd (omega (arith, e))

-- nothing yet
pub nothing : (old b : Buffers) (now : Option (List ℕ)) → held_of b ≡ held_of old → b.line.items ≡ [] → b.is_long ≡ false → b.taken ≡ old.taken → SameSizes old b → Collected old b now now
nothing old b now held line short taken sizes =
    let none : nat_lt b.most 0 ≡ false = grind arith in
    record {
      bytes = [];
      front = [];
      consumed = Consumes-nil now;
      split = append-nil (held_of old) ∙ sym held;
      lacks = tt;
      kept = record { kept = line ∙ sym (take_none b.most); long = short ∙ sym none };
      counted = omega (arith, taken);
      sizes = sizes;
      fresh = inl refl;
    }

module _ (old b new : Buffers) (before now : Option (List ℕ)) (so : Collected old b before now) where
  -- the part that is taken stands behind the front
  module _ (found : Bool) (part : TakesFront found b new) (sizes : SameSizes b new) where
    both : SameSizes old new
    both = record { most = sizes.most ∙ so.sizes.most; piece = sizes.piece ∙ so.sizes.piece; limit = sizes.limit ∙ so.sizes.limit }

    joined : held_of old ++ so.bytes ≡ (so.front ++ part.part) ++ marked 10 part.behind
    joined = so.split ∙ ap (λ l. so.front ++ l) part.cut.joined ∙ sym (append_assoc so.front part.part (marked 10 part.behind))

    lacking : Lacks 10 (so.front ++ part.part)
    lacking = lacks_append 10 so.front part.part so.lacks part.cut.first

    still : IsKept new.most new.line.items new.is_long (so.front ++ part.part)
    still = subst (λ m. IsKept m new.line.items new.is_long (so.front ++ part.part)) (sym sizes.most) (part.kept so.front so.kept)

  held_after : (behind : Option (List ℕ)) → false ≡ is_some behind → bytes_behind behind ≡ []
  held_after None e = refl
  held_after (Some rest) e = cc e

  marked_none : (behind : Option (List ℕ)) → false ≡ is_some behind → marked 10 behind ≡ bytes_behind behind
  marked_none None e = refl
  marked_none (Some rest) e = cc e

  -- there was no line feed
  pub without_feed : (part : TakesFront false b new) → SameSizes b new → SameCounts b new → Collected old new before now
  without_feed part sizes counts = record {
    bytes = so.bytes;
    front = so.front ++ part.part;
    consumed = so.consumed;
    split = joined false part sizes ∙ ap (λ l. (so.front ++ part.part) ++ l) (marked_none part.behind part.whole ∙ sym part.rest);
    lacks = lacking false part sizes;
    kept = still false part sizes;
    counted = counts.taken ∙ so.counted;
    sizes = both false part sizes;
    fresh = so.fresh;
  }

  pub none_after : TakesFront false b new → held_of new ≡ []
  none_after part = part.rest ∙ held_after part.behind part.whole

  pub no_feed : TakesFront false b new → Lacks 10 (held_of b)
  no_feed part =
      let whole : part.part ≡ held_of b = sym (append-nil part.part) ∙ ap (λ l. part.part ++ l) (sym (marked_none part.behind part.whole ∙ held_after part.behind part.whole)) ∙ sym part.cut.joined in
      subst (Lacks 10) whole part.cut.first

  -- after a turn without a line feed, none was held at the start
  pub none_at_first : TakesFront false b new → Lacks 10 (held_of old)
  none_at_first part = elim so.fresh [
    | inl none ↦ subst (Lacks 10) (sym so.split ∙ ap (λ l. held_of old ++ l) none ∙ append-nil (held_of old)) (lacks_append 10 so.front (held_of b) so.lacks (no_feed part))
    | inr lacks ↦ lacks
  ]

  -- a line that is known to be whole
  found_as : (most piece : ℕ) (is_long : Bool) (line front input : List ℕ) (is_open : Bool) (behind : Option (List ℕ)) → line ≡ new.line.items → IsKept most line is_long front → IsFirstLine new.ended input front behind → held_of new ≡ bytes_behind behind → new.taken < new.limit → ComesWith most piece (line_found is_long) input (reading_of is_open new)
  found_as most piece true line front input is_open behind same kept first held below = record {
    front = front;
    behind = behind;
    first = first;
    is = long_front most front (sym kept.long);
    held = held;
    below = below;
  }
  found_as most piece false line front input is_open behind same kept first held below =
      let short = short_front most line front kept.kept (sym kept.long) in
      record {
        front = front;
        behind = behind;
        first = first;
        is = record { short = short.0; same = sym same ∙ short.1 };
        held = held;
        below = below;
      }

  last_none : (behind : Option (List ℕ)) (Last : Type 0) → true ≡ is_some behind → IfNone behind Last
  last_none None Last e = cc e
  last_none (Some rest) Last e = tt

  -- there was a line feed
  pub with_feed : (was is_open : Bool) → old.ended ≡ false → b.taken < b.limit → b.ended ≡ false → TakesFront true b new → SameSizes b new → SameCounts b new → Takes old.most (length old.chunk.items) (line_found new.is_long) (reading_of was old) (reading_of is_open new) before now
  with_feed was is_open fresh below more part sizes counts = record {
    bytes = so.bytes;
    consumed = so.consumed;
    counted = counts.taken ∙ so.counted;
    comes = found_as old.most (length old.chunk.items) new.is_long new.line.items (so.front ++ part.part) (held_of old ++ so.bytes) is_open part.behind refl
        (subst (λ m. IsKept m new.line.items new.is_long (so.front ++ part.part)) (both true part sizes).most (still true part sizes))
        (record { cut = record { joined = joined true part sizes; first = lacking true part sizes }; last = last_none part.behind _ part.whole })
        part.rest
        (rw (counts.taken, sizes.limit) below);
    unread = unread_from old so.bytes fresh so.fresh;
    stays_ended = λ e. cc (e, fresh);
    at_end = λ e. cc (e, counts.ended, more);
  }

-- a read brought more
pub filled : (old b new : Buffers) (before mid now : Option (List ℕ)) (how : Filled) → Lacks 10 (held_of old) → Collected old b before mid → held_of b ≡ [] → IsFilled how b new mid now → SameSizes b new → SameLine b new → Collected old new before now
filled old b new before mid now how fresh so none read sizes line = record {
  bytes = so.bytes ++ read.bytes;
  front = so.front;
  consumed = Consumes-trans before mid now so.bytes read.bytes so.consumed read.consumed;
  split = sym (append_assoc (held_of old) so.bytes read.bytes) ∙ ap (λ l. l ++ read.bytes) (so.split ∙ ap (λ l. so.front ++ l) none ∙ append-nil so.front) ∙ ap (λ l. so.front ++ l) (sym read.held);
  lacks = so.lacks;
  kept = rw (sizes.most, line.line, line.long) so.kept;
  counted = omega (arith, read.counted, so.counted, length-append so.bytes read.bytes);
  sizes = record { most = sizes.most ∙ so.sizes.most; piece = sizes.piece ∙ so.sizes.piece; limit = sizes.limit ∙ so.sizes.limit };
  fresh = inr fresh;
}

-- a turn of the loop: no line feed was held, and a read followed
pub turn : (old b mid new : Buffers) (before between now : Option (List ℕ)) (how : Filled) → Collected old b before between → TakesFront false b mid → SameSizes b mid → SameCounts b mid → IsFilled how mid new between now → SameSizes mid new → SameLine mid new → Collected old new before now
turn old b mid new before between now how so part sizes counts read same line =
    filled old mid new before between now how (none_at_first old b mid before between so part) (without_feed old b mid before between so part sizes counts) (none_after old b mid before between so part) read same line

module _ (old new : Buffers) (before now : Option (List ℕ)) (so : Collected old new before now) (was is_open : Bool) (fresh : old.ended ≡ false) where
  whole : held_of new ≡ [] → held_of old ++ so.bytes ≡ so.front
  whole none = so.split ∙ ap (λ l. so.front ++ l) none ∙ append-nil so.front

  -- the end was seen behind a line
  pub last_line : held_of new ≡ [] → new.ended ≡ true → IsAtEnd now → new.taken < new.limit → new.line.items ≢ [] → Takes old.most (length old.chunk.items) (line_found new.is_long) (reading_of was old) (reading_of is_open new) before now
  last_line none ended end below some = record {
    bytes = so.bytes;
    consumed = so.consumed;
    counted = so.counted;
    comes = found_as old new new before now so old.most (length old.chunk.items) new.is_long new.line.items so.front (held_of old ++ so.bytes) is_open None refl
        (subst (λ m. IsKept m new.line.items new.is_long so.front) so.sizes.most so.kept)
        (record { cut = record { joined = whole none ∙ sym (append-nil so.front); first = so.lacks }; last = (ended, not_empty so.front new.most new.line.items so.kept.kept some) })
        none
        below;
    unread = unread_from old so.bytes fresh so.fresh;
    stays_ended = λ e. cc (e, fresh);
    at_end = λ _. inr end;
  }
    where
      not_empty : (front : List ℕ) (most : ℕ) (line : List ℕ) → line ≡ take most front → line ≢ [] → 0 < length front
      not_empty [] most line e h = absurd (h (e ∙ take_none most))
      not_empty (x ∷ xs) most line e h = omega arith

  -- the end was seen, and there is nothing
  pub no_line : held_of new ≡ [] → new.ended ≡ true → IsAtEnd now → new.taken < new.limit → 0 < new.most → new.line.items ≡ [] → Takes old.most (length old.chunk.items) End (reading_of was old) (reading_of is_open new) before now
  no_line none ended end below least empty = record {
    bytes = so.bytes;
    consumed = so.consumed;
    counted = so.counted;
    comes = (whole none ∙ no_front so.front new.most least (sym so.kept.kept ∙ empty), ended, below);
    unread = unread_from old so.bytes fresh so.fresh;
    stays_ended = λ e. cc (e, fresh);
    at_end = λ _. inr end;
  }
    where
      no_front : (front : List ℕ) (most : ℕ) → 0 < most → take most front ≡ [] → front ≡ []
      no_front [] most h e = refl
      no_front (x ∷ xs) (suc most) h e = cc e
      no_front (x ∷ xs) zero h e = absurd (omega (arith, h))

  -- the read failed
  pub no_read : held_of new ≡ [] → new.ended ≡ false → new.taken < new.limit → Takes old.most (length old.chunk.items) Failed (reading_of was old) (reading_of is_open new) before now
  no_read none more below = record {
    bytes = so.bytes;
    consumed = so.consumed;
    counted = so.counted;
    comes = (subst (Lacks 10) (sym (whole none)) so.lacks, more, below);
    unread = unread_from old so.bytes fresh so.fresh;
    stays_ended = λ e. cc (e, fresh);
    at_end = λ e. cc (e, more);
  }

  -- the limit was reached
  pub no_more : length (held_of new) ≤ length old.chunk.items → new.ended ≡ false → new.taken ≡ new.limit → Takes old.most (length old.chunk.items) Limit (reading_of was old) (reading_of is_open new) before now
  no_more most more full = record {
    bytes = so.bytes;
    consumed = so.consumed;
    counted = so.counted;
    comes = (full, more, rw so.split (lacks_front so.front (held_of new) (length old.chunk.items) most so.lacks));
    unread = unread_from old so.bytes fresh so.fresh;
    stays_ended = λ e. cc (e, fresh);
    at_end = λ e. cc (e, more);
  }
    where
      lacks_take : (n : ℕ) (text : List ℕ) → Lacks 10 text → Lacks 10 (take n text)
      lacks_take zero text h = tt
      lacks_take (suc n) [] h = tt
      lacks_take (suc n) (x ∷ xs) h = (h.0, lacks_take n xs h.1)

      lacks_front : (front back : List ℕ) (n : ℕ) → length back ≤ n → Lacks 10 front → Lacks 10 (take (length (front ++ back) - n) (front ++ back))
      lacks_front front back n h l =
          let short : length (front ++ back) - n ≤ length front = omega (arith, h, length-append front back) in
          rw (take-append-le (length (front ++ back) - n) front back short) (lacks_take (length (front ++ back) - n) front l)
