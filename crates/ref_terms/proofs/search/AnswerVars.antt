-- The block of an answer, where variables are renamed.
use Rattle.std.proofs.Common.{◌≡◌, ℕ, Bool, true, false, cond, List, [], ◌∷◌, ◌++◌, map, flat_map, codes, decimal, refl, sym, ap, ap₂, ◌∙◌}
use Rattle.std.proofs.lemmas.List.{map-append}
use Rattle.ref_terms.specs.terms.Term.{Term, Name}
use Rattle.ref_terms.specs.terms.Renamed.{vars}
use Rattle.ref_terms.specs.unification.Closing.{names_below}
use Rattle.ref_terms.specs.search.Program.{QueryVar}
use Rattle.ref_terms.specs.search.Assumption.{Assumption}
use Rattle.ref_terms.specs.search.Branch.{Constraint, Branch}
use Rattle.ref_terms.specs.search.Renamed.{assumption_vars, constraint_vars, branch_vars}
use Rattle.ref_terms.specs.texts.Text.{Part, Bytes, symbol, head_text, top}
use Rattle.ref_terms.specs.texts.Numbering.{text_of}
use Rattle.ref_terms.specs.texts.Answer.{separated, term_line, sequent_parts, indented, variable_lines, answer_block}
use Rattle.ref_terms.proofs.TextLemmas.{part_vars, parts-vars, numbered-vars}
use Rattle.ref_terms.proofs.search.TermVars.{IsOneToOne}
use Rattle.ref_terms.proofs.search.ListVars.{map-square, map-after}

module _ (p : ℕ → ℕ) where
  -- parts one after another
  joined : (xs ys xs' ys' : List Part) → xs' ≡ map (part_vars p) xs → ys' ≡ map (part_vars p) ys → xs' ++ ys' ≡ map (part_vars p) (xs ++ ys)
  joined xs ys xs' ys' e d = ap₂ (λ (a b : List Part). a ++ b) e d ∙ sym (map-append (part_vars p) xs ys)

  separated-vars : (between : List Part) → map (part_vars p) between ≡ between → (ts : List (List Part)) → separated between (map (map (part_vars p)) ts) ≡ map (part_vars p) (separated between ts)
  separated-vars between e [] = refl
  separated-vars between e (t ∷ []) = refl
  separated-vars between e (t ∷ s ∷ ts) = joined (t ++ between) (separated between (s ∷ ts)) _ _ (joined t between (map (part_vars p) t) between refl (sym e)) (separated-vars between e (s ∷ ts))

  indented-vars : (ps : List Part) → indented (map (part_vars p) ps) ≡ map (part_vars p) (indented ps)
  indented-vars ps = ap (λ (zs : List Part). Bytes (codes "  ") ∷ zs) (sym (map-append (part_vars p) ps (Bytes (10 ∷ []) ∷ [])))

  module _ (table : List (List ℕ)) where
    line-vars : (t : Term) → term_line table (vars p t) ≡ map (part_vars p) (term_line table t)
    line-vars t = parts-vars table p t top 0

    name-lines : (ns : List ℕ) → separated (Bytes (codes " ") ∷ []) (map (λ n. head_text table 0 (Name n) ∷ []) ns) ≡ map (part_vars p) (separated (Bytes (codes " ") ∷ []) (map (λ n. head_text table 0 (Name n) ∷ []) ns))
    name-lines ns =
        ap (separated (Bytes (codes " ") ∷ [])) (sym (map-after (map (part_vars p)) (λ n. head_text table 0 (Name n) ∷ []) (λ n. head_text table 0 (Name n) ∷ []) (λ n. refl) ns))
        ∙ separated-vars (Bytes (codes " ") ∷ []) refl (map (λ n. head_text table 0 (Name n) ∷ []) ns)

    assumption-lines : (hs : List Assumption) → separated (Bytes (codes "; ") ∷ []) (map (λ h. term_line table h.assumed) (map (assumption_vars p) hs)) ≡ map (part_vars p) (separated (Bytes (codes "; ") ∷ []) (map (λ h. term_line table h.assumed) hs))
    assumption-lines hs =
        ap (separated (Bytes (codes "; ") ∷ [])) (sym (map-square (map (part_vars p)) (λ h. term_line table h.assumed) (λ h. term_line table h.assumed) (assumption_vars p) (λ h. sym (line-vars h.assumed)) hs))
        ∙ separated-vars (Bytes (codes "; ") ∷ []) refl (map (λ h. term_line table h.assumed) hs)

    sequent-vars : (c : Constraint) → sequent_parts table (constraint_vars p c) ≡ map (part_vars p) (sequent_parts table c)
    sequent-vars c =
        let names = separated (Bytes (codes " ") ∷ []) (map (λ n. head_text table 0 (Name n) ∷ []) (names_below c.names)) in
        let hypotheses = separated (Bytes (codes "; ") ∷ []) (map (λ h. term_line table h.assumed) c.assumptions) in
        joined ((Bytes (codes "delayed [") ∷ names) ++ (Bytes (codes "] [") ∷ hypotheses)) (Bytes (codes "] ?- ") ∷ term_line table c.term) _ _
        (joined (Bytes (codes "delayed [") ∷ names) (Bytes (codes "] [") ∷ hypotheses) _ _
        (ap (λ (zs : List Part). Bytes (codes "delayed [") ∷ zs) (name-lines (names_below c.names)))
        (ap (λ (zs : List Part). Bytes (codes "] [") ∷ zs) (assumption-lines c.assumptions)))
        (ap (λ (zs : List Part). Bytes (codes "] ?- ") ∷ zs) (line-vars c.term))

    lines-vars : (vs : List QueryVar) (ts : List Term) → variable_lines table vs (map (vars p) ts) ≡ map (part_vars p) (variable_lines table vs ts)
    lines-vars [] ts = refl
    lines-vars (v ∷ vs) [] = refl
    lines-vars (v ∷ vs) (t ∷ ts) = go v.shown (lines-vars vs ts)
      where
        line : indented (Bytes (symbol table v.name ++ codes " = ") ∷ term_line table (vars p t)) ≡ map (part_vars p) (indented (Bytes (symbol table v.name ++ codes " = ") ∷ term_line table t))
        line = ap (λ (zs : List Part). indented (Bytes (symbol table v.name ++ codes " = ") ∷ zs)) (line-vars t) ∙ indented-vars (Bytes (symbol table v.name ++ codes " = ") ∷ term_line table t)

        go : (b : Bool) → variable_lines table vs (map (vars p) ts) ≡ map (part_vars p) (variable_lines table vs ts) → cond b (indented (Bytes (symbol table v.name ++ codes " = ") ∷ term_line table (vars p t)) ++ variable_lines table vs (map (vars p) ts)) (variable_lines table vs (map (vars p) ts))
            ≡ map (part_vars p) (cond b (indented (Bytes (symbol table v.name ++ codes " = ") ∷ term_line table t) ++ variable_lines table vs ts) (variable_lines table vs ts))
        go true e = joined (indented (Bytes (symbol table v.name ++ codes " = ") ∷ term_line table t)) (variable_lines table vs ts) _ _ line e
        go false e = e

    store-vars : (cs : List Constraint) → flat_map (λ c. indented (sequent_parts table c)) (map (constraint_vars p) cs) ≡ map (part_vars p) (flat_map (λ c. indented (sequent_parts table c)) cs)
    store-vars [] = refl
    store-vars (c ∷ cs) = joined (indented (sequent_parts table c)) (flat_map (λ c. indented (sequent_parts table c)) cs) _ _ (ap indented (sequent-vars c) ∙ indented-vars (sequent_parts table c)) (store-vars cs)

    -- the block of a renamed branch is the same
    pub block-vars : IsOneToOne p → (vs : List QueryVar) (number : ℕ) (b : Branch) → answer_block table vs number (branch_vars p b) ≡ answer_block table vs number b
    block-vars one vs number b =
        let front : Part = Bytes (codes "answer " ++ decimal number ++ 10 ∷ []) in
        let lines = variable_lines table vs b.query in
        let sequents = flat_map (λ c. indented (sequent_parts table c)) b.store in
        ap (λ (ps : List Part). text_of (front ∷ ps)) (joined lines sequents _ _ (lines-vars vs b.query) (store-vars b.store))
        ∙ numbered-vars p one [] (front ∷ lines ++ sequents)
