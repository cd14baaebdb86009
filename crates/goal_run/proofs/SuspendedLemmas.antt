-- Lines of suspended goals.
use Rattle.std.proofs.Common.{◌≡◌, ℕ, ◌++◌, List, [], ◌∷◌, map, refl, sym, ap, ap₂, ◌∙◌, subst, append-nil}
use Rattle.level_terms.specs.Graph.{Graph}
use Rattle.level_terms.specs.Growth.{Grows}
use Rattle.level_terms.specs.Reading.{read}
use Rattle.level_terms.specs.Sound.{IsSound}
use Rattle.level_terms.specs.Valid.{IsValid}
use Rattle.level_terms.proofs.ValidLemmas.{growth_keeps_valid, valid_deeper}
use Rattle.level_terms.proofs.ReadLemmas.{valid-below}
use Rattle.beta_fragment.specs.HeadForm.{AllValidAt, all_read}
use Rattle.beta_fragment.specs.Names.{names}
use Rattle.ref_terms.specs.terms.Term.{Term}
use Rattle.ref_terms.specs.search.Assumption.{Assumption}
use Rattle.ref_terms.specs.search.Branch.{Constraint, Branch}
use Rattle.ref_terms.specs.texts.Text.{Part, Bytes}
use Rattle.ref_terms.specs.texts.Answer.{answer_block}
use Rattle.ref_terms.specs.texts.Numbering.{numbered}
use Rattle.hyp_clause.specs.declared.hyp.Hyp.{Hyp}
use Rattle.hyp_clause.specs.Hyps.{assumption_in, AllHypsValid}
use Rattle.hyp_clause.proofs.HypLemmas.{hyps-read}
use Rattle.suspend.specs.declared.constraint.Constraint.{Constraint as Suspended}
use Rattle.search_moves.specs.World.{AllUsable, AllConstraints}
use Rattle.search_moves.specs.Reading.{constraint_in}
use Rattle.lp_resolve.specs.declared.query.QueryVar.{QueryVar}
use Rattle.lp_resolve.specs.Plain.{plain_variable}
use Rattle.term_print.specs.Written.{seen_after, Page, Prints}
use Rattle.term_print.specs.Pieces.{page}
use Rattle.term_print.proofs.WrittenLemmas.{prints-none, prints-trans}
use Rattle.term_print.proofs.SequentLemmas.{printed-is, prints-before, bytes-then, all-valid-grown, all-read-grown, one-read-grown}
use Rattle.goal_run.specs.inside.Heading.{heading}
use Rattle.goal_run.specs.inside.Lines.{Adds, lines_of}
use Rattle.goal_run.specs.inside.Suspended.{suspended_line, suspended_lines, assumed_terms, IsShowable, AllShowable, ShowsAs}

-- a line: two blanks, a sequent, a line feed
pub suspended-written : (t0 t1 t2 t3 seen seen' : List ℕ) (ps : List Part) → t1 ≡ t0 ++ 32 ∷ 32 ∷ [] → t2 ≡ t1 ++ numbered seen ps → seen' ≡ seen_after seen ps → t3 ≡ t2 ++ 10 ∷ []
    → Prints (page t0 seen) (Bytes (32 ∷ 32 ∷ []) ∷ (ps ++ Bytes (10 ∷ []) ∷ [])) (page t3 seen') []
suspended-written t0 t1 t2 t3 seen seen' ps a b c d =
    let feed : List Part = Bytes (10 ∷ []) ∷ [] in
    let sequent : Prints (page t1 seen) (ps ++ feed) (page t2 seen') feed = prints-before (page t1 seen) (page t2 seen') ps feed (printed-is t1 seen t2 seen' ps b c) in
    let end : Prints (page t2 seen') feed (page t3 seen') [] = bytes-then t2 t3 seen' (10 ∷ []) (page t3 seen') [] [] d (prints-none (page t3 seen') []) in
    bytes-then t0 t1 seen (32 ∷ 32 ∷ []) (page t3 seen') (ps ++ feed) [] a (prints-trans (page t1 seen) (page t2 seen') (page t3 seen') (ps ++ feed) feed [] sequent end)

-- what was assumed is valid at the names of the goal
assumed-valid : (g : Graph) (depth : ℕ) (hs : List Hyp) → AllHypsValid g hs → AllUsable g depth hs → AllValidAt g (assumed_terms hs) depth
assumed-valid g depth [] v u = tt
assumed-valid g depth (h ∷ hs) v u = (valid_deeper g h.term.index h.depth depth v.0.term u.0.scope, assumed-valid g depth hs v.1 u.1)

-- what is stored can be printed
pub stored-showable : (g : Graph) (es : List (ℕ × Suspended (List Hyp))) → AllConstraints g es → AllShowable g es
stored-showable g [] v = tt
stored-showable g (e ∷ es) v =
    (record { goal = v.0.goal; assumed = assumed-valid g e.1.names e.1.context v.0.context.valid v.0.context.usable }, stored-showable g es v.1)

-- also when the heap has grown
module _ (g h : Graph) (sound : IsSound g) (grows : Grows g h [] []) where
  pub showable-grown : (s : Suspended (List Hyp)) → IsShowable g s → IsShowable h s
  showable-grown s v = record {
    goal = growth_keeps_valid g h [] [] s.goal.index s.names sound grows (valid-below g s.goal.index s.names v.goal) v.goal;
    assumed = all-valid-grown g h sound grows (assumed_terms s.context) s.names v.assumed;
  }

  pub all-showable-grown : (es : List (ℕ × Suspended (List Hyp))) → AllShowable g es → AllShowable h es
  all-showable-grown [] v = tt
  all-showable-grown (e ∷ es) v = (showable-grown e.1 v.0, all-showable-grown es v.1)

  -- and it reads as before
  pub stored-read : (es : List (ℕ × Suspended (List Hyp))) → AllConstraints g es → map (constraint_in h) es ≡ map (constraint_in g) es
  stored-read [] v = refl
  stored-read (e ∷ es) v = ap₂ (λ (c : Constraint) (cs : List Constraint). c ∷ cs) (one e v.0.context.valid v.0.goal v.0.keys) (stored-read es v.1)
    where
      one : (e : ℕ × Suspended (List Hyp)) → AllHypsValid g e.1.context → IsValid g e.1.goal.index e.1.names → AllValidAt g e.1.keys e.1.names → constraint_in h e ≡ constraint_in g e
      one e context goal keys = λ i. record {
        number = e.0;
        names = e.1.names;
        assumptions = hyps-read g h e.1.context sound grows context i;
        term = one-read-grown g h sound grows e.1.goal e.1.names goal i;
        keys = all-read-grown g h sound grows e.1.keys e.1.names keys i;
      }

-- what was assumed, read before and after
assumed-reads : (g : Graph) (hs : List Hyp) → map (λ (a : Assumption). a.assumed) (map (assumption_in g) hs) ≡ all_read g (assumed_terms hs)
assumed-reads g [] = refl
assumed-reads g (h ∷ hs) = ap (λ (ts : List Term). read g h.term.index names ∷ ts) (assumed-reads g hs)

-- a suspended goal shows as what it was before the heap grew
pub shows-as : (g h : Graph) → IsSound g → Grows g h [] [] → (e : ℕ × Suspended (List Hyp)) → IsShowable g e.1 → ShowsAs h e.1 (constraint_in g e)
shows-as g h sound grows e v = record {
  scope = refl;
  assumed = assumed-reads g e.1.context ∙ sym (all-read-grown g h sound grows (assumed_terms e.1.context) e.1.names v.assumed);
  term = sym (one-read-grown g h sound grows e.1.goal e.1.names v.goal);
}

-- the line of the next goal is written
pub next-suspended : (table : List (List ℕ)) (old now new : Page) (ps : List Part) (c : Constraint) (cs left : List Constraint) → left ≡ c ∷ cs → Prints old ps now (suspended_lines table left)
    → Prints now (suspended_line table c) new [] → Prints old ps new (suspended_lines table cs)
next-suspended table old now new ps c cs left e a b =
    prints-trans old now new ps (suspended_line table c ++ suspended_lines table cs) (suspended_lines table cs) (subst (λ (xs : List Constraint). Prints old ps now (suspended_lines table xs)) e a)
    (prints-before now new (suspended_line table c) (suspended_lines table cs) b)

-- the lines of the variables, and then those of the goals
pub both-written : (p q r : Page) (vs gs : List Part) → Prints p vs q [] → Prints q gs r [] → Prints p (vs ++ gs) r []
both-written p q r vs gs a b = prints-trans p q r (vs ++ gs) gs [] (prints-before p q vs gs a) b

-- the heading with these lines is the block
pub block-is : (table : List (List ℕ)) (vs : List QueryVar) (number : ℕ) (b : Branch) (t seen t' seen' : List ℕ) → seen ≡ [] → t ≡ heading number
    → Adds t seen (lines_of table vs b.query ++ suspended_lines table b.store) t' seen' → t' ≡ answer_block table (map plain_variable vs) number b
block-is table vs number b t seen t' seen' none begun w =
    let ps : List Part = lines_of table vs b.query ++ suspended_lines table b.store in
    w.text ∙ ap₂ (λ (x y : List ℕ). x ++ y) begun (sym (append-nil w.more) ∙ sym w.parts ∙ ap (λ (s : List ℕ). numbered s ps) none)
