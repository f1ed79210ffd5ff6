-- A translation back holds the versions of its list, and where it is refused.
use Rattle.std.proofs.Common.{◌≡◌, ◌≢◌, ◌+◌, ◌++◌, ℕ, Bool, List, [], ◌∷◌, true, false, refl, sym, ◌∙◌, subst, inl, inr, Ok, Err}
use Rattle.std.specs.List.{AllByRecursion}
use Rattle.std.proofs.lemmas.Bool.{cases_Bool}
use Rattle.vx_scheme.specs.declared.back_fault.BackFault.{BackFault}
use Rattle.vx_scheme.specs.declared.back_fault.BackFault.TheVariants as fault_of
use Rattle.vx_scheme.specs.declared.domain.Domain.{Domain}
use Rattle.vx_scheme.specs.declared.scheme.Scheme.{Ghosts as Scheme}
use Rattle.vx_scheme.specs.declared.native.Native.{Ghosts as Language}
use Rattle.vx_scheme.specs.Domains.{InDomain}
use Rattle.vx_scheme.specs.declared.span.Cut.{Cut}
use Rattle.vx_scheme.specs.declared.span.Span.{Span}
use Rattle.vx_scheme.specs.Cuts.{IsInOrder, in_spans, spans_of}
use Rattle.vx_scheme.specs.Native.{BackLaws, EachVersion}
use Rattle.vx_line.specs.Line.{emit}
use Rattle.vx_vers.specs.declared.constraints.Constraint.{Constraint}
use Rattle.vx_vers.specs.Meaning.{Kind, point, hole, opening, closing, kind, opens_last, opens_next, closes_first, meaning}
use Rattle.vx_simplify.specs.Edges.{is_piece_in, edges_at, edges, all_holes, starts_in, edges_of, spans_of_list}
use Rattle.vx_simplify.specs.Simplified.{is_dropped, stays_behind, simplified}
use Rattle.vx_translate.specs.Backward.{KeepsMembers, HasNoText}
use Rattle.vx_translate.specs.Refusals.{refusal_of_back}
use Rattle.vx_translate.specs.VersTexts.{SpellsVers}
use Rattle.vx_translate.specs.declared.refusal.Refusal.{Refusal}
use Rattle.vx_translate.specs.declared.refusal.Refusal.TheVariants as refusal_of
use Rattle.vx_translate.specs.declared.refusal.BackKind.{BackKind}
use Rattle.vx_translate.specs.declared.refusal.BackKind.TheVariants as back_kind
use Rattle.vx_translate.proofs.VersLaws.{read_versions}

-- What is true of each constraint is true of those that stay,
pub stay_all : {C : Type 0} (kind : C → Kind) (P : C → Type 0) (before list : List C) → AllByRecursion P list → AllByRecursion P (stays_behind kind before list)
stay_all kind P before [] all = tt
stay_all kind P before (c ∷ behind) all = elim (cases_Bool (is_dropped (opens_last kind false before) (kind c) (closes_first kind behind false))) [
  | inl dropped ↦ rw dropped (stay_all kind P (before ++ c ∷ []) behind all.1)
  | inr stays ↦ rw stays (all.0, stay_all kind P (before ++ c ∷ []) behind all.1)
]

emit_all : {C : Type 0} (P : C → Type 0) (x y : Bool) (c : C) (list : List C) → P c → AllByRecursion P list → AllByRecursion P (emit x y c list)
emit_all P true true c list one all = all
emit_all P false false c list one all = all
emit_all P true false c list one all = (one, all)
emit_all P false true c list one all = (one, all)

module _ {V : Type 0} (P : V → Type 0) where
  abbrev OfCut : Cut V → Type 0
  OfCut cut = P cut.version

  abbrev OfConstraint : Constraint V → Type 0
  OfConstraint c = P c.version

  -- of its cuts,
  at_all : (k : Kind) (x y : Bool) (number : ℕ) (c : Constraint V) (rest : List (Cut V)) → P c.version → AllByRecursion OfCut rest → AllByRecursion OfCut (edges_at k x y number c rest)
  at_all point x y number c rest one all = emit_all OfCut x true _ _ one (emit_all OfCut true y _ rest one all)
  at_all hole x y number c rest one all = emit_all OfCut x false _ _ one (emit_all OfCut false y _ rest one all)
  at_all opening x y number c rest one all = emit_all OfCut x y _ rest one all
  at_all closing x y number c rest one all = emit_all OfCut x y _ rest one all

  edges_all : (holes before : Bool) (number : ℕ) (list : List (Constraint V)) → AllByRecursion OfConstraint list → AllByRecursion OfCut (edges holes before number list)
  edges_all holes before number [] all = tt
  edges_all holes before number (c ∷ list) all =
      at_all (kind c) (is_piece_in holes before (c ∷ list)) (is_piece_in holes (opens_next before (kind c)) list) number c
      (edges holes (opens_next before (kind c)) (number + 1) list) all.0 (edges_all holes (opens_next before (kind c)) (number + 1) list all.1)

  -- and of their spans.
  spans_all : (starts : Bool) (cuts : List (Cut V)) → AllByRecursion OfCut cuts → EachVersion P (spans_of starts cuts)
  spans_all false [] all = tt
  spans_all false (c ∷ []) all = ((all.0, tt), tt)
  spans_all false (c ∷ d ∷ cuts) all = ((all.0, all.1.0), spans_all false cuts all.1.1)
  spans_all true [] all = ((tt, tt), tt)
  spans_all true (c ∷ cuts) all = ((tt, all.0), spans_all false cuts all.1)

  pub simple_all : (list : List (Constraint V)) → AllByRecursion OfConstraint list → EachVersion P (spans_of_list (simplified kind list))
  simple_all list all =
      let simple = simplified kind list in
      spans_all (starts_in simple) (edges_of simple) (edges_all (all_holes simple) false 1 simple (stay_all kind OfConstraint [] list all))

-- The printed text holds the versions of the domain that the list holds.
module _ {S V : Type 0} (scheme : Scheme S V) (language : Language S V)
    (laws : BackLaws scheme.order scheme.IsVersion (InDomain scheme) language.IsRange language.In language.back) (spelled_version : (t : List ℕ) (v : V) → scheme.Spells t v → scheme.IsVersion v) where
  pub keeps_members : (domain : Domain) (text out : List ℕ) (list : List (Constraint V)) (spans : List (Span V)) → SpellsVers scheme text list → spans ≡ spans_of_list (simplified kind list)
      → spans ≢ [] → IsInOrder scheme.order spans → ((v : V) → in_spans scheme.order spans v ≡ meaning scheme.order v list) → language.back domain spans ≡ Ok out
      → KeepsMembers scheme language domain text out
  keeps_members domain text out list spans read is some in_order means printed =
      let each : EachVersion scheme.IsVersion spans = subst (EachVersion scheme.IsVersion) (sym is) (simple_all scheme.IsVersion list (read_versions scheme text spelled_version list read)) in
      let prints = laws.backward domain spans out (record { some = some; in_order = in_order }) each printed in
      record {
        list = list;
        read = read;
        range = prints.range;
        same = λ v version within.
            let said = prints.members v version within in
            (λ inside. sym (means v) ∙ said.0 inside, λ held. said.1 (means v ∙ held));
      }

-- What holds where a `NoNative` comes holds where the spans have no text.
module _ {S V : Type 0} (scheme : Scheme S V) (language : Language S V) (domain : Domain) (text : List ℕ) where
  abbrev None : Refusal → Type 0
  None refusal = HasNoText scheme language domain text refusal

  no_text_of : (P : Refusal → Type 0) → ((k : BackKind) (n : ℕ) → None (refusal_of.NoNative k n) → P (refusal_of.NoNative k n))
      → (list : List (Constraint V)) → SpellsVers scheme text list → (fault : BackFault) → language.back domain (spans_of_list (simplified kind list)) ≡ Err fault
      → refusal_of_back fault ≢ refusal_of.NoMemory → P (refusal_of_back fault)
  no_text_of P gives list read (fault_of.NotOneInterval k) e some = gives back_kind.NotOneInterval k (record { list = list; read = read; fault = fault_of.NotOneInterval k; refused = e; called = refl })
  no_text_of P gives list read (fault_of.PointHole k) e some = gives back_kind.PointHole k (record { list = list; read = read; fault = fault_of.PointHole k; refused = e; called = refl })
  no_text_of P gives list read (fault_of.LocalBound k) e some = gives back_kind.LocalBound k (record { list = list; read = read; fault = fault_of.LocalBound k; refused = e; called = refl })
  no_text_of P gives list read (fault_of.LocalsApart k) e some = gives back_kind.LocalsApart k (record { list = list; read = read; fault = fault_of.LocalsApart k; refused = e; called = refl })
  no_text_of P gives list read (fault_of.NothingInDomain k) e some = gives back_kind.NothingInDomain k (record { list = list; read = read; fault = fault_of.NothingInDomain k; refused = e; called = refl })
  no_text_of P gives list read fault_of.NoMemory e some = absurd (some refl)

  pub no_text : (P : Refusal → Type 0) → ((k : BackKind) (n : ℕ) → None (refusal_of.NoNative k n) → P (refusal_of.NoNative k n))
      → (refusal : Refusal) → refusal ≢ refusal_of.NoMemory → None refusal → P refusal
  no_text P gives refusal some none =
      subst P (sym none.called) (no_text_of P gives none.list none.read none.fault none.refused (subst (λ (r : Refusal). r ≢ refusal_of.NoMemory) none.called some))
