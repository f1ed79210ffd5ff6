-- Constraints that were read one after the other.
use Rattle.std.proofs.Common.{◌≡◌, ◌≢◌, ◌≤◌, ◌+◌, ◌++◌, ℕ, List, [], ◌∷◌, length, refl, sym, ap, subst, ◌∙◌, inl, inr, arith, append-nil, append_assoc, length-append, Option, Some, None, Result, Ok, Err, Ordering}
use Rattle.std.proofs.lemmas.List.Elements.{All-from_recursion, recursion_from_All}
use Rattle.std.proofs.lemmas.List.Sorted.{All-permutation}
use Rattle.vx_spec.specs.Firsts.{IsFirst}
use Rattle.vx_spec.specs.Marks.{IsCut}
use Rattle.vx_spec.proofs.EachLaws.{each_append}
use Rattle.vx_spec.proofs.FirstLaws.{first_pass}
use Rattle.vx_text.proofs.Joins.{parts_behind, split_cut}
use Rattle.vx_vers.specs.declared.constraints.Constraint.{Constraint}
use Rattle.vx_vers.specs.declared.fault.VersFault.{VersFault}
use Rattle.vx_vers.specs.declared.fault.VersFault.TheVariants as fault_of
use Rattle.vx_text.specs.Pieces.{kept_parts}
use Rattle.vx_vers.specs.Grammar.{EachWithin, NoStar, SpellEach, SpellsConstraint}
use Rattle.vx_vers.specs.Refusals.{RefusesPart, RefusesWritten, numbered_texts}
use Rattle.vx_vers.specs.Steps.Numbering.{IsSettledAs}
use Rattle.vx_vers.specs.Steps.Reading.{IsPartReadAs, IsPushed, IsReadNext, IsReadUpTo, IsWrittenReadAs, Refused, RefusesNext}
use Rattle.vx_vers.proofs.PartLaws.{left}

module _ {V : Type 0} (Spells : List ℕ → V → Type 0) (IsWithin : V → Type 0) where
  -- what is spelled within the limits has no fault
  pub no_fault : (k : ℕ) (texts : List (List ℕ)) (list : List (Constraint V)) → SpellEach Spells texts list → EachWithin IsWithin list → IsFirst (RefusesPart Spells IsWithin) (numbered_texts k texts) None
  no_fault k [] list p within = refl
  no_fault k (text ∷ texts) [] p within = absurd p
  no_fault k (text ∷ texts) (c ∷ list) p within = inl (record { constraint = c; spelled = p.0; within = within.0 }, no_fault (k + 1) texts list p.1 within.1)

  numbered_append : (k : ℕ) (xs ys : List (List ℕ)) → numbered_texts k (xs ++ ys) ≡ numbered_texts k xs ++ numbered_texts (k + length xs) ys
  numbered_append k [] ys = ap (λ (n : ℕ). numbered_texts n ys) (omega arith)
  numbered_append k (x ∷ xs) ys =
      let e : k + 1 + length xs ≡ k + length (x ∷ xs) = omega arith in
      ap (λ (rest : List (ℕ × List ℕ)). (k, x) ∷ rest) (numbered_append (k + 1) xs ys ∙ ap (λ (n : ℕ). numbered_texts (k + 1) xs ++ numbered_texts n ys) e)

  spelled_length : (texts : List (List ℕ)) (list : List (Constraint V)) → SpellEach Spells texts list → length texts ≡ length list
  spelled_length [] [] p = refl
  spelled_length [] (c ∷ list) p = absurd p
  spelled_length (text ∷ texts) [] p = absurd p
  spelled_length (text ∷ texts) (c ∷ list) p = omega (arith, spelled_length texts list p.1)

  pub none_spelled : (texts : List (List ℕ)) (list : List (Constraint V)) → list ≡ [] → SpellEach Spells texts list → texts ≡ []
  none_spelled [] list none p = refl
  none_spelled (text ∷ texts) list none p = absurd (subst (SpellEach Spells (text ∷ texts)) none p)

  pub spelled_none : (texts : List (List ℕ)) (list : List (Constraint V)) → texts ≡ [] → SpellEach Spells texts list → list ≡ []
  spelled_none texts [] none p = refl
  spelled_none texts (c ∷ list) none p = absurd (subst (λ ts. SpellEach Spells ts (c ∷ list)) none p)

  spelled_more : (texts : List (List ℕ)) (list : List (Constraint V)) (text : List ℕ) (c : Constraint V) → SpellEach Spells texts list → SpellsConstraint Spells text c → SpellEach Spells (texts ++ text ∷ []) (list ++ c ∷ [])
  spelled_more [] [] text c p one = (one, tt)
  spelled_more [] (d ∷ list) text c p one = absurd p
  spelled_more (t ∷ texts) [] text c p one = absurd p
  spelled_more (t ∷ texts) (d ∷ list) text c p one = (p.0, spelled_more texts list text c p.1 one)

  pub none_read : (texts : List (List ℕ)) → IsReadUpTo Spells IsWithin texts texts []
  none_read texts = record { done = []; joined = refl; spelled = tt; within = tt }

  pub next_read : (part : List ℕ) (list more : List (Constraint V)) (c : Constraint V) → part ≢ [] → more ≡ list ++ c ∷ [] → SpellsConstraint Spells part c → IsWithin c.version → IsReadNext Spells IsWithin part list more
  next_read [] list more c some e spelled within = absurd (some refl)
  next_read (b ∷ part) list more c some e spelled within = (c, e, spelled, within)

  -- what is pushed of a part that is read, and why it is refused
  pub pushed_read : (k : ℕ) (part : List ℕ) (list more : List (Constraint V)) (answer : Result (Constraint V) VersFault) → part ≢ [] → IsPartReadAs Spells IsWithin (k, part) answer
      → IsPushed answer list more → IsReadNext Spells IsWithin part list more
  pushed_read k part list more answer some read pushed =
      let h = subst (IsPartReadAs Spells IsWithin (k, part)) pushed.2 read in
      next_read part list more pushed.0 some pushed.1 h.0 h.1

  pub refused_read : (k : ℕ) (part : List ℕ) (list : List (Constraint V)) (answer : Result (Constraint V) VersFault) (fault : VersFault) → k ≡ length list + 1 → part ≢ [] → IsPartReadAs Spells IsWithin (k, part) answer
      → Refused (λ f. answer ≡ Err f) fault → Refused (RefusesNext Spells IsWithin part list) fault
  refused_read k part list answer fault number some read refused = λ cause.
      (some, subst (λ n. RefusesPart Spells IsWithin (n, part) (Some fault)) number (subst (IsPartReadAs Spells IsWithin (k, part)) (refused cause) read cause))

  -- one part more
  read_one : (texts : List (List ℕ)) (part : List ℕ) (parts : List (List ℕ)) (list more : List (Constraint V)) → IsReadUpTo Spells IsWithin texts (kept_parts (part ∷ parts)) list
      → IsReadNext Spells IsWithin part list more → IsReadUpTo Spells IsWithin texts (kept_parts parts) more
  read_one texts [] parts list more read next = subst (IsReadUpTo Spells IsWithin texts (kept_parts parts)) (sym next) read
  read_one texts (b ∷ part) parts list more read next = subst (IsReadUpTo Spells IsWithin texts (kept_parts parts)) (sym next.1) (record {
    done = read.done ++ (b ∷ part) ∷ [];
    joined = append_assoc read.done ((b ∷ part) ∷ []) (kept_parts parts) ∙ read.joined;
    spelled = spelled_more read.done list (b ∷ part) next.0 read.spelled next.2;
    within = each_append (λ c. IsWithin c.version) list (next.0 ∷ []) read.within (next.3, tt);
  })

  pub read_more : (texts : List (List ℕ)) (text part : List ℕ) (behind : Option (List ℕ)) (list more : List (Constraint V)) → IsCut 124 text part behind
      → IsReadUpTo Spells IsWithin texts (kept_parts (parts_behind 124 (Some text))) list → IsReadNext Spells IsWithin part list more → IsReadUpTo Spells IsWithin texts (kept_parts (parts_behind 124 behind)) more
  read_more texts text part behind list more cut read next =
      read_one texts part (parts_behind 124 behind) list more (subst (λ parts. IsReadUpTo Spells IsWithin texts (kept_parts parts) list) (split_cut 124 text part behind cut) read) next

  -- the list grows by one where a text is left that is not empty
  one_longer : (part : List ℕ) (list more : List (Constraint V)) → IsReadNext Spells IsWithin part list more → length more ≤ length list + length part
  one_longer [] list more next = omega (arith, ap length next)
  one_longer (b ∷ part) list more next = omega (arith, ap length next.1, length-append list (next.0 ∷ []))

  pub room_left : (n : ℕ) (text part : List ℕ) (behind : Option (List ℕ)) (list more : List (Constraint V)) → IsCut 124 text part behind
      → length list + left (Some text) ≤ n → IsReadNext Spells IsWithin part list more → length more + left behind ≤ n
  room_left n text part None list more cut room next = omega (arith, one_longer part list more next, ap length cut.joined, length-append part [])
  room_left n text part (Some rest) list more cut room next = omega (arith, one_longer part list more next, ap length cut.joined, length-append part (124 ∷ rest))

  -- the first that has a fault
  stops_at : (texts : List (List ℕ)) (part : List ℕ) (parts : List (List ℕ)) (list : List (Constraint V)) (fault : VersFault) → IsReadUpTo Spells IsWithin texts (kept_parts (part ∷ parts)) list
      → RefusesNext Spells IsWithin part list fault → IsFirst (RefusesPart Spells IsWithin) (numbered_texts 1 texts) (Some fault)
  stops_at texts [] parts list fault read refused = absurd (refused.0 refl)
  stops_at texts (b ∷ part) parts list fault read refused =
      let rest : List (List ℕ) = kept_parts parts in
      let number : length list + 1 ≡ 1 + length read.done = omega (arith, spelled_length read.done list read.spelled) in
      subst (λ ts. IsFirst (RefusesPart Spells IsWithin) (numbered_texts 1 ts) (Some fault)) read.joined
      (subst (λ items. IsFirst (RefusesPart Spells IsWithin) items (Some fault)) (sym (numbered_append 1 read.done ((b ∷ part) ∷ rest)))
      (first_pass (RefusesPart Spells IsWithin) (numbered_texts 1 read.done) (numbered_texts (1 + length read.done) ((b ∷ part) ∷ rest)) (Some fault) (no_fault 1 read.done list read.spelled read.within)
      (inr (fault, subst (λ k. RefusesPart Spells IsWithin (k, b ∷ part) (Some fault)) number refused.1, refl))))

  pub read_stops : (texts : List (List ℕ)) (text part : List ℕ) (behind : Option (List ℕ)) (list : List (Constraint V)) (fault : VersFault) → IsCut 124 text part behind
      → IsReadUpTo Spells IsWithin texts (kept_parts (parts_behind 124 (Some text))) list → RefusesNext Spells IsWithin part list fault → IsFirst (RefusesPart Spells IsWithin) (numbered_texts 1 texts) (Some fault)
  read_stops texts text part behind list fault cut read refused =
      stops_at texts part (parts_behind 124 behind) list fault (subst (λ parts. IsReadUpTo Spells IsWithin texts (kept_parts parts) list) (split_cut 124 text part behind cut) read) refused

  -- where no text is left, all are read
  pub read_all : (texts : List (List ℕ)) (list : List (Constraint V)) → IsReadUpTo Spells IsWithin texts [] list → SpellEach Spells texts list × EachWithin IsWithin list
  read_all texts list read = (subst (λ ts. SpellEach Spells ts list) (sym (append-nil read.done) ∙ read.joined) read.spelled, read.within)

  module _ (order : V → V → Ordering) where
    -- what is settled is what the texts spell
    pub settled : (texts : List (List ℕ)) (constraints : List (Constraint V)) (answer : Result (List (Constraint V)) VersFault) → texts ≢ [] → NoStar texts → SpellEach Spells texts constraints → EachWithin IsWithin constraints
        → IsSettledAs order constraints answer → IsWrittenReadAs order Spells IsWithin texts answer
    settled texts constraints (Ok list) some stars spelled within done = (
      inr (record { some = some; stars = stars; constraints = constraints; spelled = spelled; same = done.0; sorted = done.1 }),
      recursion_from_All (λ c. IsWithin c.version) list (All-permutation (λ c. IsWithin c.version) constraints list done.0 (All-from_recursion (λ c. IsWithin c.version) constraints within)),
    )
    settled texts constraints (Err fault) some stars spelled within done = λ cause.
        let h = done cause in
        subst (RefusesWritten order Spells IsWithin texts) (sym h.1) (record { stars = stars; constraints = constraints; spelled = spelled; within = within; first = h.2 })

    -- a fault that no part has is that of none
    never : (fault : VersFault) → ((part : ℕ × List ℕ) → ¬ (RefusesPart Spells IsWithin part (Some fault))) → (parts : List (ℕ × List ℕ)) → ¬ (IsFirst (RefusesPart Spells IsWithin) parts (Some fault))
    never fault none [] p = cc p
    never fault none (part ∷ parts) (inl p) = never fault none parts p.1
    never fault none (part ∷ parts) (inr p) = none part (subst (RefusesPart Spells IsWithin part) (sym p.2) p.1)

    -- the fault of the first that has one is that of all
    pub faulty : (texts : List (List ℕ)) (fault : VersFault) → NoStar texts → Refused (λ f. IsFirst (RefusesPart Spells IsWithin) (numbered_texts 1 texts) (Some f)) fault → Refused (RefusesWritten order Spells IsWithin texts) fault
    faulty texts fault_of.Head stars h cause = absurd (never fault_of.Head (λ part r. r) (numbered_texts 1 texts) (h cause))
    faulty texts (fault_of.Constraint k) stars h cause = inr (record { stars = stars; first = h cause })
    faulty texts (fault_of.Version k) stars h cause = record { stars = stars; first = h cause }
    faulty texts (fault_of.Duplicate k) stars h cause = absurd (never (fault_of.Duplicate k) (λ part r. r) (numbered_texts 1 texts) (h cause))
    faulty texts fault_of.StarNotAlone stars h cause = absurd (never fault_of.StarNotAlone (λ part r. r) (numbered_texts 1 texts) (h cause))
    faulty texts (fault_of.Numeral k) stars h cause = record { stars = stars; first = h cause }
    faulty texts fault_of.NoMemory stars h cause = absurd (cause refl)
