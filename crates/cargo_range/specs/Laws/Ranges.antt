-- What Cargo's range language promises of the spans that it makes and of what it refuses.
use Rattle.std.proofs.Common.{◌≡◌, ◌≢◌, ◌∙◌, ◌&&◌, ℕ, true, false, List, [], ◌∷◌, map, refl, sym, ap, subst, Option, Some, None, Result, Ok, Err, inl, inr}
use Rattle.std.specs.Prelude.{⊤, ◌⊎◌}
use Rattle.std.specs.List.{list_all, prefix_len}
use Rattle.std.proofs.Math.Bool.{or-false}
use Rattle.std.proofs.lemmas.Bool.{cases_Bool}
use Rattle.semver.specs.EvalViews.{matches_views, view_op}
use Rattle.semver.specs.Parse.{Held, Parts, req_of}
use Rattle.semver.specs.declared.error.Error.{Error}
use Rattle.semver.proofs.Numerals.{ok-value}
use Rattle.vx_scheme.specs.declared.domain.Domain.{Domain}
use Rattle.vx_scheme.specs.declared.range_fault.RangeFault.{RangeFault}
use Rattle.vx_scheme.specs.declared.range_fault.RangeFault.TheVariants as fault_of
use Rattle.vx_scheme.specs.declared.span.Span.{Span}
use Rattle.vx_scheme.specs.Cuts.{in_spans, in_bounds}
use Rattle.vx_scheme.specs.Native.{RangeLaws, by_domain}
use Rattle.vx_range.specs.Making.{made_each, mark_behind, alternatives_of}
use Rattle.cargo_range.specs.declared.construct.Construct.{Construct}
use Rattle.cargo_range.specs.Version.{IsVersion, IsRelease}
use Rattle.cargo_range.specs.Order.{precedence}
use Rattle.cargo_range.specs.Reading.{Reads, forms_of}
use Rattle.cargo_range.specs.Holds.{held_of}
use Rattle.cargo_range.specs.Spans.{made_spans}
use Rattle.cargo_range.specs.Refusals.{IsNoRequirement, HasFormless, RefusesText, can_raise, place_of}
use Rattle.cargo_range.specs.Range.{Offers, IsRange, In, MakesBounds, Makes, Refuses}
use Rattle.cargo_range.specs.Laws.Forms.{forms_held, one_reading}
use Rattle.cargo_range.specs.Laws.Orders.{release_all}
use Rattle.cargo_range.specs.Laws.Tables.{table_says}

-- ---- forward

-- each term holds the releases of which its comparator holds
each_says : (mark : ℕ) (all : List Construct) (v : Parts) → IsRelease v
    → list_all (λ spans. in_spans precedence spans v) (made_each made_spans mark all) ≡ list_all (λ c. view_op c.0 c v) (map held_of all)
each_says mark [] v release = refl
each_says mark (c ∷ all) v release =
    λ i. table_says c.operator mark c.partial v release i && each_says (mark_behind made_spans mark c) all v release i

-- the bounds hold the releases that the comparators match
pub bounds_say : (text : List ℕ) (all : List Construct) (reads : Reads text all) (v : Parts) → IsRelease v
    → in_bounds precedence (alternatives_of made_spans (all ∷ [])) v ≡ matches_views reads.held v
bounds_say text all reads v release =
    or-false _ ∙ each_says 0 all v release
    ∙ ap (λ (held : List Held). list_all (λ c. view_op c.0 c v) held) (sym (forms_held reads.held all reads.formed))
    ∙ sym (release_all reads.held v release)

-- what is matched does not depend on how the text was read
matched_alike : (text : List ℕ) (held held' : List Held) (v : Parts) → req_of text ≡ Ok held → req_of text ≡ Ok held'
    → matches_views held v ≡ matches_views held' v
matched_alike text held held' v p q = ap (λ (h : List Held). matches_views h v) (ok-value held held' (sym p ∙ q))

forward : (domain : Domain) (text : List ℕ) (bounds : List (List (List (Span Parts)))) → Makes domain text bounds → (v : Parts)
    → IsVersion v → by_domain (λ _. ⊤) IsRelease domain v
    → (In text v → in_bounds precedence bounds v ≡ true) × (in_bounds precedence bounds v ≡ true → In text v)
forward domain text bounds makes v is inside =
    let m = makes.1 in
    let release : IsRelease v = subst (λ (d : Domain). by_domain (λ _. ⊤) IsRelease d v) makes.0 inside in
    let said : in_bounds precedence bounds v ≡ matches_views m.reads.held v = ap (λ b. in_bounds precedence b v) m.are ∙ bounds_say text m.all m.reads v release in (
      λ in'. said ∙ matched_alike text m.reads.held in'.held v m.reads.read in'.read ∙ in'.matched,
      λ held. record { held = m.reads.held; read = m.reads.read; all = m.all; formed = m.reads.formed; matched = sym said ∙ held },
    )

-- ---- one answer

makes_one : (text : List ℕ) (a b : List (List (List (Span Parts)))) → MakesBounds text a → MakesBounds text b → a ≡ b
makes_one text a b p q =
    p.are ∙ ap (λ (all : List Construct). alternatives_of made_spans (all ∷ [])) (one_reading text p.all q.all p.reads q.reads) ∙ sym q.are

-- a text that has a reading is a requirement whose comparators have forms
not_refused : (text : List ℕ) (all : List Construct) → Reads text all → IsNoRequirement text ⊎ HasFormless text → ⊥
not_refused text all reads (inl none) = absurd (cc (reads.read, none.1))
not_refused text all reads (inr formless) =
    let same : reads.held ≡ formless.0 = ok-value _ _ (sym reads.read ∙ formless.1) in
    absurd (cc (reads.formed, formless.2, ap forms_of same))

all_raised : (text : List ℕ) (all all' : List Construct) → Reads text all → Reads text all' → list_all can_raise all ≡ true
    → list_all can_raise all' ≡ false → ⊥
all_raised text all all' p q raised some = absurd (cc (raised, some, ap (list_all can_raise) (one_reading text all all' p q)))

apart : (text : List ℕ) (bounds : List (List (List (Span Parts)))) (fault : RangeFault) → MakesBounds text bounds
    → RefusesText text fault → ⊥
apart text bounds (fault_of.Syntax at) m r = not_refused text m.all m.reads r.1
apart text bounds (fault_of.Numeral at) m r = all_raised text m.all r.all m.reads r.reads m.raised r.some
apart text bounds (fault_of.NoEndpoint kind at) m r = r
apart text bounds fault_of.NoMemory m r = r

pub refuses_one : (text : List ℕ) (a b : RangeFault) → RefusesText text a → RefusesText text b → a ≡ b
refuses_one text (fault_of.Syntax a) (fault_of.Syntax b) p q = ap fault_of.Syntax (p.0 ∙ sym q.0)
refuses_one text (fault_of.Syntax a) (fault_of.Numeral b) p q = absurd (not_refused text q.all q.reads p.1)
refuses_one text (fault_of.Numeral a) (fault_of.Syntax b) p q = absurd (not_refused text p.all p.reads q.1)
refuses_one text (fault_of.Numeral a) (fault_of.Numeral b) p q =
    ap fault_of.Numeral (p.place ∙ ap (λ (all : List Construct). place_of text (prefix_len can_raise all)) (one_reading text p.all q.all p.reads q.reads) ∙ sym q.place)
refuses_one text (fault_of.NoEndpoint kind a) b p q = absurd p
refuses_one text fault_of.NoMemory b p q = absurd p
refuses_one text (fault_of.Syntax a) (fault_of.NoEndpoint kind b) p q = absurd q
refuses_one text (fault_of.Syntax a) fault_of.NoMemory p q = absurd q
refuses_one text (fault_of.Numeral a) (fault_of.NoEndpoint kind b) p q = absurd q
refuses_one text (fault_of.Numeral a) fault_of.NoMemory p q = absurd q

-- ---- an answer to each text

module _ (text : List ℕ) (makes : (bounds : List (List (List (Span Parts)))) → MakesBounds text bounds → ⊥) (refuses : (fault : RangeFault) → fault ≢ fault_of.NoMemory → RefusesText text fault → ⊥) where
  some_bounds : (all : List Construct) → Reads text all → ⊥
  some_bounds all reads = elim (cases_Bool (list_all can_raise all)) [
    | inl raised ↦ makes (alternatives_of made_spans (all ∷ [])) (record { all = all; reads = reads; raised = raised; are = refl })
    | inr some ↦ refuses (fault_of.Numeral (place_of text (prefix_len can_raise all))) (λ e. cc e) (record { all = all; reads = reads; some = some; place = refl })
  ]

  some_forms : (held : List Held) → req_of text ≡ Ok held → (forms : Option (List Construct)) → forms_of held ≡ forms → ⊥
  some_forms held read (Some all) formed = some_bounds all (record { held = held; read = read; formed = formed })
  some_forms held read None formed = refuses (fault_of.Syntax 0) (λ e. cc e) (refl, inr (held, read, formed))

  some_answer : (read : Result (List Held) Error) → req_of text ≡ read → ⊥
  some_answer (Ok held) read = some_forms held read (forms_of held) refl
  some_answer (Err error) read = refuses (fault_of.Syntax 0) (λ e. cc e) (refl, inl (error, read))

pub cargo_ranges : RangeLaws precedence IsVersion (by_domain (λ _. ⊤) IsRelease) Offers IsRange In Makes Refuses
cargo_ranges = record {
  makes_range = λ domain text bounds m. (m.1.all, m.1.reads);
  makes_one = λ domain text a b p q. makes_one text a b p.1 q.1;
  apart = λ domain text bounds fault m r. apart text bounds fault m.1 r.1;
  refuses_one = λ domain text a b p q. refuses_one text a b p.1 q.1;
  answered = λ domain text offered makes refuses. some_answer text (λ bounds m. makes bounds (offered, m)) (λ fault other r. refuses fault other (offered, r)) (req_of text) refl;
  forward = forward;
}
