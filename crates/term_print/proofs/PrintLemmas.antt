-- The whole text of a term.
use Rattle.std.proofs.Common.{◌≡◌, ℕ, ◌-◌, ◌++◌, List, [], ◌∷◌, refl, sym, ap, ◌∙◌, subst, append-nil, arith, reverse, length}
use Rattle.level_terms.specs.declared.node.TermId.{TermId}
use Rattle.level_terms.specs.Graph.{Graph}
use Rattle.level_terms.specs.Growth.{Grows}
use Rattle.level_terms.specs.Reading.{read}
use Rattle.level_terms.specs.Valid.{IsValid}
use Rattle.ref_terms.specs.texts.Text as text
use Rattle.ref_terms.specs.texts.Text.{Part}
use Rattle.ref_terms.specs.texts.Answer.{term_line}
use Rattle.ref_terms.specs.texts.Numbering.{numbered}
use Rattle.beta_fragment.specs.Names.{names}
use Rattle.term_print.specs.Opened.{opened_parts}
use Rattle.term_print.specs.Written.{seen_after, GainsFront, Page, Prints, Stops}
use Rattle.term_print.specs.Pieces.{work_parts, work_size, ArePieces, Leaves}
use Rattle.term_print.specs.declared.piece.Piece.{Piece}
use Rattle.term_print.specs.declared.piece.Piece.TheVariants.{Top}
use Rattle.term_print.proofs.NameLemmas.{opened-base}
use Rattle.term_print.proofs.WrittenLemmas.{prints-none, prints-trans, stops-later}
use Rattle.term_print.proofs.StepLemmas.{pushed-one}
use Rattle.level_terms.proofs.GrowthLemmas.{grows-refl, grows-trans}

-- a term at its own depth
pub line-parts : (table : List (List ℕ)) (g : Graph) (t : TermId) (depth : ℕ) → IsValid g t.index depth → term_line table (read g t.index names) ≡ work_parts table depth g (Top t depth 0 ∷ [])
line-parts table g t depth v =
    opened-base table depth g t.index v
    ∙ ap (λ (d : ℕ). opened_parts table depth (read g t.index names) text.top d) (let e : 0 ≡ depth - depth = omega arith in e)
    ∙ sym (append-nil (opened_parts table depth (read g t.index names) text.top (depth - depth)))

-- what is done so far
pub record Printing (table : List (List ℕ)) (depth : ℕ) (first : Graph) (ps : List Part) (old : Page) (g : Graph) (work : List Piece) (now : Page) : Type 0 where
  pub prints : Prints old ps now (work_parts table depth g work)
  pub pieces : ArePieces depth g work
  pub variables : g.depths ≡ first.depths
  pub grows : Grows first g [] []

-- all is done
pub printed-text : (old new : Page) (ps rest : List Part) → rest ≡ [] → Prints old ps new rest → new.text ≡ old.text ++ numbered old.seen ps
printed-text old new ps rest e w =
    w.text ∙ ap (λ (x : List ℕ). old.text ++ x) (sym (w.parts ∙ ap (λ (qs : List Part). w.more ++ numbered new.seen qs) e ∙ append-nil w.more))

pub printed-seen : (old new : Page) (ps rest : List Part) → rest ≡ [] → Prints old ps new rest → new.seen ≡ seen_after old.seen ps
printed-seen old new ps rest e w = sym (w.seen ∙ ap (seen_after new.seen) e)

pub none-left : (work : List Piece) → length work ≡ 0 → work ≡ []
none-left [] e = refl
none-left (p ∷ work) e = absurd (omega (arith, e))

pub started : (table : List (List ℕ)) (depth : ℕ) (g : Graph) (t : TermId) (work : List Piece) (p : Page) → work ≡ Top t depth 0 ∷ [] → IsValid g t.index depth → Printing table depth g (work_parts table depth g (Top t depth 0 ∷ [])) p g (reverse work) p
started table depth g t work p e v =
    subst (λ (ws : List Piece). Printing table depth g (work_parts table depth g (Top t depth 0 ∷ [])) p g (reverse ws) p) (sym e)
    record {
      prints = prints-none p (work_parts table depth g (Top t depth 0 ∷ []));
      pieces = ((record { valid = v; deep = omega arith }, tt), tt);
      variables = refl;
      grows = grows-refl g [];
    }

pub goes_on : (table : List (List ℕ)) (depth : ℕ) (first : Graph) (ps : List Part) (old : Page) (g h : Graph) (work rest : List Piece) (piece : Piece) (now new : Page) (left : List Piece) → work ≡ rest ++ piece ∷ []
    → Printing table depth first ps old g (reverse work) now → Leaves table depth now (work_parts table depth g (piece ∷ reverse rest)) (work_size depth g (piece ∷ reverse rest)) h new left → h.depths ≡ g.depths → Grows g h [] []
    → Printing table depth first ps old h left new
goes_on table depth first ps old g h work rest piece now new left e w l vs gr = record {
  prints = prints-trans old now new ps (work_parts table depth g (piece ∷ reverse rest)) (work_parts table depth h left)
      (subst (λ (ws : List Piece). Prints old ps now (work_parts table depth g ws)) (pushed-one rest work piece e) w.prints) l.prints;
  pieces = l.pieces;
  variables = vs ∙ w.variables;
  grows = grows-trans first g h [] [] [] w.grows gr;
}

module _ (table : List (List ℕ)) (depth : ℕ) (first : Graph) (t : TermId) (v : IsValid first t.index depth) (old : Page) (g : Graph) (work : List Piece) where
  pub stopped-line : (rest : List Piece) (piece : Piece) (now : Page) (new : List ℕ) → work ≡ rest ++ piece ∷ [] → Printing table depth first (work_parts table depth first (Top t depth 0 ∷ [])) old g (reverse work) now
      → Stops now (work_parts table depth g (piece ∷ reverse rest)) new → GainsFront (numbered old.seen (term_line table (read first t.index names))) old.text new
  stopped-line rest piece now new e w s =
      subst (λ (ps : List Part). GainsFront (numbered old.seen ps) old.text new) (sym (line-parts table first t depth v))
      (stops-later old now (work_parts table depth first (Top t depth 0 ∷ [])) (work_parts table depth g (piece ∷ reverse rest)) new
      (subst (λ (ws : List Piece). Prints old (work_parts table depth first (Top t depth 0 ∷ [])) now (work_parts table depth g ws)) (pushed-one rest work piece e) w.prints) s)

  pub printed-line : (now : Page) → work ≡ [] → Printing table depth first (work_parts table depth first (Top t depth 0 ∷ [])) old g (reverse work) now → now.text ≡ old.text ++ numbered old.seen (term_line table (read first t.index names))
  printed-line now e w =
      printed-text old now (work_parts table depth first (Top t depth 0 ∷ [])) (work_parts table depth g (reverse work)) (ap (λ (ws : List Piece). work_parts table depth g (reverse ws)) e) w.prints
      ∙ ap (λ (ps : List Part). old.text ++ numbered old.seen ps) (sym (line-parts table first t depth v))

  pub seen-line : (now : Page) → work ≡ [] → Printing table depth first (work_parts table depth first (Top t depth 0 ∷ [])) old g (reverse work) now → now.seen ≡ seen_after old.seen (term_line table (read first t.index names))
  seen-line now e w =
      printed-seen old now (work_parts table depth first (Top t depth 0 ∷ [])) (work_parts table depth g (reverse work)) (ap (λ (ws : List Piece). work_parts table depth g (reverse ws)) e) w.prints
      ∙ ap (λ (ps : List Part). seen_after old.seen ps) (sym (line-parts table first t depth v))
