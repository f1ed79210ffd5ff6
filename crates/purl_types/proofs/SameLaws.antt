-- Folding gives equal values exactly where the package is the same, and so do canonical texts.
use Rattle.std.proofs.Common.{◌≡◌, ◌↔◌, ℕ, Bool, IsTrue, List, [], ◌∷◌, map, refl, sym, ap, ◌∙◌, subst}
use Rattle.purl_core.specs.Value.{Ascending, Package, IsValid}
use Rattle.purl_core.specs.Spelling.{Member, SpellsPurl}
use Rattle.purl_core.specs.Printed.{purl_text}
use Rattle.purl_core.proofs.OneValue.{one_value, same_lists, same_package}
use Rattle.purl_core.proofs.Printed.{one_printed, printed, same_map}
use Rattle.purl_core.proofs.Valid.{valid}
use Rattle.purl_types.specs.Table.{row_of}
use Rattle.purl_types.specs.Folding.{fold_text, folded_purl}
use Rattle.vx_spec.specs.Each.{AreEach}
use Rattle.purl_types.specs.Same.{Same, SameText}
use Rattle.purl_types.specs.declared.table.Row.{Row}
use Rattle.purl_types.specs.declared.table.Folding.TheVariants.{Kept}
use Rattle.purl_types.specs.Canonical.{AreBytes, IsCanonical}
use Rattle.purl_types.proofs.Letters.{list_if, list_only, text_if, text_only}
use Rattle.purl_types.proofs.FoldLaws.{folded_once, valid_folded}

pub folded_same : (p q : Package) → Ascending p.qualifiers → Ascending q.qualifiers → Same p q → folded_purl p ≡ folded_purl q
folded_same p q x y s =
    let row = row_of p.kind in
    same_package s.kind
    (list_only (SameText row.namespace) (fold_text row.namespace) (text_only row.namespace) p.namespace q.namespace s.namespace
    ∙ ap (λ kind. map (fold_text (row_of kind).namespace) q.namespace) s.kind)
    (text_only row.name p.name q.name s.name ∙ ap (λ kind. fold_text (row_of kind).name q.name) s.kind)
    s.version (same_lists p.qualifiers q.qualifiers x y (λ pair. s.qualifiers pair.0 pair.1)) s.subpath

pub same_folded : (p q : Package) → folded_purl p ≡ folded_purl q → Same p q
same_folded p q e =
    let row = row_of p.kind in
    let kind : p.kind ≡ q.kind = ap (λ (r : Package). r.kind) e in
    let namespace : map (fold_text (row_of p.kind).namespace) p.namespace ≡ map (fold_text (row_of q.kind).namespace) q.namespace = ap (λ (r : Package). r.namespace) e in
    let name : fold_text (row_of p.kind).name p.name ≡ fold_text (row_of q.kind).name q.name = ap (λ (r : Package). r.name) e in
    record {
      kind = kind;
      namespace = list_if (SameText row.namespace) (fold_text row.namespace) (text_if row.namespace) p.namespace q.namespace
          (namespace ∙ ap (λ k. map (fold_text (row_of k).namespace) q.namespace) (sym kind));
      name = text_if row.name p.name q.name (name ∙ ap (λ k. fold_text (row_of k).name q.name) (sym kind));
      version = ap (λ (r : Package). r.version) e;
      qualifiers = (λ key value. same_map p.qualifiers q.qualifiers (ap (λ (r : Package). r.qualifiers) e) (key, value));
      subpath = ap (λ (r : Package). r.subpath) e;
    }

-- one canonical text for one package
pub canonical_same : (p q : Package) → IsValid p → IsValid q → (purl_text (folded_purl p) ≡ purl_text (folded_purl q)) ↔ Same p q
canonical_same p q x y = (
  (λ e. same_folded p q (one_printed (folded_purl p) (folded_purl q) (valid_folded p x) (valid_folded q y) e)),
  (λ s. ap purl_text (folded_same p q x.ascending y.ascending s)),
)

pub again : (text canonical : List ℕ) → AreBytes text → IsCanonical text canonical → IsCanonical canonical canonical
again text canonical bytes c =
    let good = valid_folded c.purl (valid text c.purl bytes c.spells) in
    record {
      purl = folded_purl c.purl;
      spells = subst (λ (t : List ℕ). SpellsPurl t (folded_purl c.purl)) (sym c.printed) (printed (folded_purl c.purl) good);
      printed = c.printed ∙ ap purl_text (sym (folded_once c.purl));
    }

-- what the canonical text of a text is printed of
printed_is : (text canonical : List ℕ) (p : Package) → SpellsPurl text p → IsCanonical text canonical → canonical ≡ purl_text (folded_purl p)
printed_is text canonical p spells c = c.printed ∙ ap (λ (q : Package). purl_text (folded_purl q)) (one_value text c.purl p c.spells spells)

pub one_text : (a b x y : List ℕ) (p q : Package) → AreBytes a → AreBytes b → SpellsPurl a p → SpellsPurl b q → IsCanonical a x → IsCanonical b y → (x ≡ y) ↔ Same p q
one_text a b x y p q small tiny first second c d =
    let left = printed_is a x p first c in
    let right = printed_is b y q second d in
    let law = canonical_same p q (valid a p small first) (valid b q tiny second) in
    ((λ e. law.0 (sym left ∙ e ∙ right)), (λ s. left ∙ law.1 s ∙ sym right))

-- ---- what is told of parts

same_pairs : (p q : Package) → p.qualifiers ≡ q.qualifiers → (key value : List ℕ) → Member (key, value) p.qualifiers ↔ Member (key, value) q.qualifiers
same_pairs p q e key value = same_map p.qualifiers q.qualifiers e (key, value)

pub same_parts : (p q : Package) (row : Row) → Ascending p.qualifiers → Ascending q.qualifiers → row ≡ row_of p.kind → p.kind ≡ q.kind
    → ((AreEach (SameText row.namespace) p.namespace q.namespace × SameText row.name p.name q.name)
    × ((p.version ≡ q.version) × ((p.qualifiers ≡ q.qualifiers) × (p.subpath ≡ q.subpath)))) ↔ Same p q
same_parts p q row x y is kind = (
  (λ parts. record {
    kind = kind;
    namespace = subst (λ (r : Row). AreEach (SameText r.namespace) p.namespace q.namespace) is parts.0.0;
    name = subst (λ (r : Row). SameText r.name p.name q.name) is parts.0.1;
    version = parts.1.0;
    qualifiers = same_pairs p q parts.1.1.0;
    subpath = parts.1.1.1;
  }),
  (λ s. (
    (subst (λ (r : Row). AreEach (SameText r.namespace) p.namespace q.namespace) (sym is) s.namespace, subst (λ (r : Row). SameText r.name p.name q.name) (sym is) s.name),
    (s.version, (same_lists p.qualifiers q.qualifiers x y (λ pair. s.qualifiers pair.0 pair.1), s.subpath)),
  )),
)

pub told_by : {P Q : Type 0} (told : Bool) → (IsTrue told ↔ P) → (P ↔ Q) → IsTrue told ↔ Q
told_by told x y = ((λ t. y.0 (x.0 t)), (λ q. x.1 (y.1 q)))

pub each_equal : (a b : List (List ℕ)) → AreEach (SameText Kept) a b ↔ (a ≡ b)
each_equal [] [] = ((λ p. refl), (λ e. tt))
each_equal [] (y ∷ b) = ((λ p. absurd p), (λ e. cc e))
each_equal (x ∷ a) [] = ((λ p. absurd p), (λ e. cc e))
each_equal (x ∷ a) (y ∷ b) = let rest = each_equal a b in ((λ p. cc (p.0, rest.0 p.1)), (λ e. (cc e, rest.1 (cc e))))
