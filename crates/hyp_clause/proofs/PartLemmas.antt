-- Parts of a term that are read as clauses.
use Rattle.std.proofs.Common.{◌≡◌, ℕ, suc, ◌+◌, ◌*◌, List, [], ◌∷◌, map, Bool, true, false, cond, nat_lt, Option, Some, None, refl, sym, ap, ap₂, ◌∙◌, arith, subst, append-nil, length, length-append, ◌<◌}
use mathlib.Core.Path.{fun_ext}
use Rattle.ref_terms.specs.terms.Term as term
use Rattle.ref_terms.specs.terms.Term.{Term, At}
use Rattle.ref_terms.specs.terms.Apply.{apply}
use Rattle.ref_terms.specs.unification.Shape as shape
use Rattle.ref_terms.specs.unification.Shape.{Shape, shape, headed}
use Rattle.ref_terms.specs.unification.Spine.{apply_all}
use Rattle.ref_terms.specs.declared.sym.Sym.{Sym}
use Rattle.ref_terms.specs.declared.fault.Fault.{Fault}
use Rattle.ref_terms.specs.declared.fault.Fault.TheVariants.{NotGoal, FlexClause, Redex}
use Rattle.ref_terms.specs.declared.reserved.Reserved.{Reserved}
use Rattle.ref_terms.specs.declared.reserved.Reserved.TheVariants.{And as And_word, Implies as Implies_word, If as If_word, Pi as Pi_word, Nonvar as Nonvar_word, Distinct as Distinct_word}
use Rattle.ref_terms.specs.search.Reserved.{word_of, if_term, implies_term}
use Rattle.ref_terms.specs.search.Fault.{Judged, Good, Bad, judged_map}
use Rattle.ref_terms.specs.search.Assumption.{Assumption, guarded, quantified, clause_form, clause_at, constants, read_at}
use Rattle.level_terms.specs.declared.node.TermId.{TermId}
use Rattle.level_terms.specs.Graph.{Graph}
use Rattle.level_terms.specs.Growth.{Grows}
use Rattle.level_terms.specs.Reading.{read}
use Rattle.level_terms.specs.Sound.{IsSound, AllOlder}
use Rattle.level_terms.proofs.ReadLemmas.{valid-below}
use Rattle.level_terms.specs.Valid.{IsValid}
use Rattle.beta_fragment.specs.Names.{names}
use Rattle.beta_fragment.specs.HeadForm.{AllValidAt, all_read, IsHeadForm, IsAbstraction}
use Rattle.beta_fragment.proofs.HeadLemmas.{valid-grown_all, read-grown_all}
use Rattle.std.proofs.lemmas.Bool.Decides.{nat_tests}
use Rattle.ref_terms.specs.terms.Ready.{ready}
use Rattle.beta_fragment.specs.declared.answer.RigidHead.TheVariants.{Con, Int, Str, Level}
use Rattle.beta_fragment.specs.declared.answer.Whnf.{Whnf}
use Rattle.beta_fragment.specs.declared.answer.Whnf.TheVariants.{Lam, Rigid, Flex, Redex as RedexForm}
use Rattle.hyp_clause.specs.declared.hyp.Hyp.{Hyp}
use Rattle.hyp_clause.specs.declared.forms.Form.TheVariants.{If, Implies, Pi}
use Rattle.hyp_clause.specs.declared.reading.Word.TheVariants.{And as AndKind, If as IfKind, Implies as ImpliesKind, Pi as PiKind, Other, Free}
use Rattle.hyp_clause.specs.Hyps.{assumption_in, all_ground_normal}
use Rattle.hyp_clause.specs.inside.Words.{word_kind, fault_of_name, form_fault}
use Rattle.hyp_clause.specs.inside.Forms.{goals_of, assumed_around, around}
use Rattle.hyp_clause.specs.inside.Parts.{Task, Seen, kept, one, two, failed, part_term, both_of, conditional_of, implied_of, IsQuantified, IsClause, IsPart, IsHeadedPart, judged, size_of, IsTurnOf}
use Rattle.hyp_clause.proofs.ReadAtLemmas.{total, constants-named, head-constants, head-shape, redex-shape, reader, read-shape}
use Rattle.hyp_clause.proofs.FormLemmas.{good, bad, around-if, around-implies, around-pi, judged-twice, judged-both, goals-valid, reads-grown, valid-grown, forms-grown, around-grown}

-- a part in a heap that grew
pub judged-grown : (g h : Graph) (scope : ℕ) (k : Task) → IsSound g → Grows g h [] [] → IsPart g scope k → judged h scope k ≡ judged g scope k
judged-grown g h scope k s w p =
    let same : part_term h k ≡ part_term g k = reads-grown g h s w k.term.index (scope + k.pis) p.term in
    let forms = fun_ext (λ (x : Assumption). around-grown g h s w scope (scope + k.pis) k.forms x p.forms) in
    ap₂ (λ (f : Assumption → Assumption) (u : Term). judged_map (map f) (read_at (constants u) scope k.pis u)) forms same

pub part-grown : (g h : Graph) (scope : ℕ) (k : Task) → IsSound g → Grows g h [] [] → IsPart g scope k → IsPart h scope k
part-grown g h scope k s w p = record { term = valid-grown g h s w k.term.index (scope + k.pis) p.term; forms = forms-grown g h s w scope (scope + k.pis) k.forms p.forms }

pub size-grown : (g h : Graph) (scope : ℕ) (k : Task) → IsSound g → Grows g h [] [] → IsPart g scope k → size_of h k ≡ size_of g k
size-grown g h scope k s w p = ap (λ (u : Term). 1 + 2 * constants u) (reads-grown g h s w k.term.index (scope + k.pis) p.term)

-- the nodes of a clause are there in a heap that grew
older-grown : (g h : Graph) (t : ℕ) → Grows g h [] [] → t < length g.nodes → t < length h.nodes
older-grown g h t w l = let e = ap length w.nodes ∙ length-append w.new_nodes g.nodes in omega arith

all-older_grown : (g h : Graph) (d : ℕ) (ts : List TermId) → Grows g h [] [] → AllValidAt g ts d → AllOlder (length h.nodes) ts
all-older_grown g h d [] w v = tt
all-older_grown g h d (t ∷ ts) w v = (older-grown g h t.index w (valid-below g t.index d v.0), all-older_grown g h d ts w v.1)

pub clause-older : (g h : Graph) (scope : ℕ) (k : Task) (t : TermId) (ts : List TermId) → Grows g h [] [] → IsPart g scope k → IsValid h t.index scope → ts ≡ goals_of k.forms → AllOlder (length h.nodes) (k.term ∷ t ∷ ts)
clause-older g h scope k t ts w p v e =
    let goals = all-older_grown g h (scope + k.pis) (goals_of k.forms) w (goals-valid g scope (scope + k.pis) k.forms p.forms) in
    (older-grown g h k.term.index w (valid-below g k.term.index (scope + k.pis) p.term), (valid-below h t.index scope v, subst (AllOlder (length h.nodes)) (sym e) goals))

-- no clause
pub turn-failed : (g h : Graph) (scope : ℕ) (k : Task) (f : Fault) → judged g scope k ≡ Bad f → IsTurnOf g h scope k (failed f)
turn-failed g h scope k f e = record { reads = sym e; makes_sense = tt; smaller = omega arith }

judged-shape : (g : Graph) (scope : ℕ) (k : Task) (s : Shape) → shape 0 (part_term g k) ≡ s → judged g scope k ≡ judged_map (map (around g k.forms)) (clause_at (reader scope) scope k.pis (part_term g k) s)
judged-shape g scope k s e = ap (judged_map (map (around g k.forms))) (read-shape scope k.pis (part_term g k) s e)

-- by the form
lam-shape : (u : Term) → IsAbstraction u → shape 0 u ≡ shape.Abstraction
lam-shape (term.Lam b) w = refl
lam-shape (At h) w = absurd w
lam-shape (term.App f a) w = absurd w

stuck-shape : (u x : Term) (xs : List Term) → IsAbstraction u → ready x ≡ false → shape 0 (apply_all u (x ∷ xs)) ≡ shape.Redex
stuck-shape (term.Lam b) x xs w r = redex-shape b x xs r
stuck-shape (At h) x xs w r = absurd w
stuck-shape (term.App f a) x xs w r = absurd w

var-shape : (v : ℕ) (xs : List Term) → headed 0 (Some (term.Var v)) xs ≡ shape.Flex v xs
var-shape v xs = let e : nat_lt v 0 ≡ false = grind (arith, nat_tests) in ap (λ (b : Bool). cond b (shape.Rigid (term.Var v) xs) (shape.Flex v xs)) e

pub form-failed : (g : Graph) (scope depth : ℕ) (k : Task) (w : Whnf) (f : Fault) → IsHeadForm g depth (part_term g k) w → form_fault scope w ≡ Some f → judged g scope k ≡ Bad f
form-failed g scope depth k (Lam t) f h e = judged-shape g scope k shape.Abstraction (ap (shape 0) h.1 ∙ lam-shape (read g t.index names) h.0.reads) ∙ ap bad (let q : Some NotGoal ≡ Some f = e in cc)
form-failed g scope depth k (Flex v ts) f h e = judged-shape g scope k (shape.Flex v.index (all_read g ts)) (ap (shape 0) h.3 ∙ head-shape (term.Var v.index) (all_read g ts) ∙ var-shape v.index (all_read g ts)) ∙ ap bad (let q : Some FlexClause ≡ Some f = e in cc)
form-failed g scope depth k (RedexForm t []) f h e = absurd h.1
form-failed g scope depth k (RedexForm t (a ∷ ts)) f h e = judged-shape g scope k shape.Redex (ap (shape 0) h.3 ∙ stuck-shape (read g t.index names) (read g a.index names) (all_read g ts) h.0.reads h.1) ∙ ap bad (let q : Some Redex ≡ Some f = e in cc)
form-failed g scope depth k (Rigid (Con c) ts) f h e = absurd (let q : None ≡ Some f = e in cc)
form-failed g scope depth k (Rigid (Int n) ts) f h e = judged-shape g scope k (shape.Rigid (term.Int n) (all_read g ts)) (ap (shape 0) h.1 ∙ head-shape (term.Int n) (all_read g ts)) ∙ ap bad (let q : Some NotGoal ≡ Some f = e in cc)
form-failed g scope depth k (Rigid (Str n) ts) f h e = judged-shape g scope k (shape.Rigid (term.Str n.0) (all_read g ts)) (ap (shape 0) h.1 ∙ head-shape (term.Str n.0) (all_read g ts)) ∙ ap bad (let q : Some NotGoal ≡ Some f = e in cc)
form-failed g scope depth k (Rigid (Level l) ts) f h e =
    judged-shape g scope k (shape.Rigid (term.Name l) (all_read g ts)) (ap (shape 0) h.1 ∙ head-shape (term.Name l) (all_read g ts))
    ∙ go (nat_lt l scope)
    ∙ ap bad (let q : Some (fault_of_name scope l) ≡ Some f = e in cc)
  where
    go : (b : Bool) → judged_map (map (around g k.forms)) (cond b (Bad NotGoal) (Bad FlexClause)) ≡ Bad (cond b NotGoal FlexClause)
    go true = refl
    go false = refl

head-judged : (g : Graph) (scope : ℕ) (k : Task) (c : Sym) (args : List TermId) (o : Option Reserved) → IsHeadedPart g scope k c args → word_of c.0 ≡ o →
    judged g scope k ≡ judged_map (map (around g k.forms)) (clause_form (reader scope) scope k.pis c.0 o (all_read g args) (part_term g k))
head-judged g scope k c args o w e =
    judged-shape g scope k (shape.Rigid (term.Con c.0) (all_read g args)) (ap (shape 0) w.reads ∙ head-shape (term.Con c.0) (all_read g args))
    ∙ ap (λ (p : Option Reserved). judged_map (map (around g k.forms)) (clause_form (reader scope) scope k.pis c.0 p (all_read g args) (part_term g k))) e

part-size : (g : Graph) (scope : ℕ) (k : Task) (c : Sym) (args : List TermId) → IsHeadedPart g scope k c args → size_of g k ≡ 3 + 2 * total (all_read g args)
part-size g scope k c args w =
    let e = ap constants w.reads ∙ head-constants c.0 (all_read g args) in
    let d = ap (λ (n : ℕ). 1 + 2 * n) e in
    omega arith

-- which word it is
kind-and : (o : Option Reserved) → word_kind o ≡ AndKind → o ≡ Some And_word
kind-and None e = absurd (let z : Free ≡ AndKind = e in cc)
kind-and (Some And_word) e = refl
kind-and (Some If_word) e = absurd (let z : IfKind ≡ AndKind = e in cc)
kind-and (Some Implies_word) e = absurd (let z : ImpliesKind ≡ AndKind = e in cc)
kind-and (Some Pi_word) e = absurd (let z : PiKind ≡ AndKind = e in cc)
kind-and (Some Nonvar_word) e = absurd (let z : Free ≡ AndKind = e in cc)
kind-and (Some Distinct_word) e = absurd (let z : Free ≡ AndKind = e in cc)
kind-and (Some _) e = absurd (let z : Other ≡ AndKind = e in cc)

kind-if : (o : Option Reserved) → word_kind o ≡ IfKind → o ≡ Some If_word
kind-if None e = absurd (let z : Free ≡ IfKind = e in cc)
kind-if (Some And_word) e = absurd (let z : AndKind ≡ IfKind = e in cc)
kind-if (Some If_word) e = refl
kind-if (Some Implies_word) e = absurd (let z : ImpliesKind ≡ IfKind = e in cc)
kind-if (Some Pi_word) e = absurd (let z : PiKind ≡ IfKind = e in cc)
kind-if (Some Nonvar_word) e = absurd (let z : Free ≡ IfKind = e in cc)
kind-if (Some Distinct_word) e = absurd (let z : Free ≡ IfKind = e in cc)
kind-if (Some _) e = absurd (let z : Other ≡ IfKind = e in cc)

kind-implies : (o : Option Reserved) → word_kind o ≡ ImpliesKind → o ≡ Some Implies_word
kind-implies None e = absurd (let z : Free ≡ ImpliesKind = e in cc)
kind-implies (Some And_word) e = absurd (let z : AndKind ≡ ImpliesKind = e in cc)
kind-implies (Some If_word) e = absurd (let z : IfKind ≡ ImpliesKind = e in cc)
kind-implies (Some Implies_word) e = refl
kind-implies (Some Pi_word) e = absurd (let z : PiKind ≡ ImpliesKind = e in cc)
kind-implies (Some Nonvar_word) e = absurd (let z : Free ≡ ImpliesKind = e in cc)
kind-implies (Some Distinct_word) e = absurd (let z : Free ≡ ImpliesKind = e in cc)
kind-implies (Some _) e = absurd (let z : Other ≡ ImpliesKind = e in cc)

kind-pi : (o : Option Reserved) → word_kind o ≡ PiKind → o ≡ Some Pi_word
kind-pi None e = absurd (let z : Free ≡ PiKind = e in cc)
kind-pi (Some And_word) e = absurd (let z : AndKind ≡ PiKind = e in cc)
kind-pi (Some If_word) e = absurd (let z : IfKind ≡ PiKind = e in cc)
kind-pi (Some Implies_word) e = absurd (let z : ImpliesKind ≡ PiKind = e in cc)
kind-pi (Some Pi_word) e = refl
kind-pi (Some Nonvar_word) e = absurd (let z : Free ≡ PiKind = e in cc)
kind-pi (Some Distinct_word) e = absurd (let z : Free ≡ PiKind = e in cc)
kind-pi (Some _) e = absurd (let z : Other ≡ PiKind = e in cc)

-- a word that makes no clause
other-form : (r : ℕ → Term → Judged (List Assumption)) (scope bound c : ℕ) (o : Option Reserved) (ts : List Term) (u : Term) → word_kind o ≡ Other → clause_form r scope bound c o ts u ≡ Bad NotGoal
other-form r scope bound c None ts u e = absurd (let z : Free ≡ Other = e in cc)
other-form r scope bound c (Some And_word) ts u e = absurd (let z : AndKind ≡ Other = e in cc)
other-form r scope bound c (Some If_word) ts u e = absurd (let z : IfKind ≡ Other = e in cc)
other-form r scope bound c (Some Implies_word) ts u e = absurd (let z : ImpliesKind ≡ Other = e in cc)
other-form r scope bound c (Some Pi_word) ts u e = absurd (let z : PiKind ≡ Other = e in cc)
other-form r scope bound c (Some Nonvar_word) ts u e = absurd (let z : Free ≡ Other = e in cc)
other-form r scope bound c (Some Distinct_word) ts u e = absurd (let z : Free ≡ Other = e in cc)
other-form r scope bound c (Some _) ts u e = refl

-- the clause of an atom
abbrev atom_of : (scope bound c : ℕ) → Term → Assumption
atom_of scope bound c u = record { pred = c; scope = scope; parameters = bound; head = u; conditions = []; assumed = u }

free-form : (r : ℕ → Term → Judged (List Assumption)) (scope bound c : ℕ) (o : Option Reserved) (ts : List Term) (u : Term) → word_kind o ≡ Free → clause_form r scope bound c o ts u ≡ Good (atom_of scope bound c u ∷ [])
free-form r scope bound c None ts u e = refl
free-form r scope bound c (Some And_word) ts u e = absurd (let z : AndKind ≡ Free = e in cc)
free-form r scope bound c (Some If_word) ts u e = absurd (let z : IfKind ≡ Free = e in cc)
free-form r scope bound c (Some Implies_word) ts u e = absurd (let z : ImpliesKind ≡ Free = e in cc)
free-form r scope bound c (Some Pi_word) ts u e = absurd (let z : PiKind ≡ Free = e in cc)
free-form r scope bound c (Some Nonvar_word) ts u e = refl
free-form r scope bound c (Some Distinct_word) ts u e = refl
free-form r scope bound c (Some _) ts u e = absurd (let z : Other ≡ Free = e in cc)

pub turn-other : (g : Graph) (scope : ℕ) (k : Task) (c : Sym) (args : List TermId) → IsHeadedPart g scope k c args → word_kind (word_of c.0) ≡ Other → IsTurnOf g g scope k (failed NotGoal)
turn-other g scope k c args w e = turn-failed g g scope k NotGoal (head-judged g scope k c args (word_of c.0) w refl ∙ ap (judged_map (map (around g k.forms))) (other-form (reader scope) scope k.pis c.0 (word_of c.0) (all_read g args) (part_term g k) e))

-- `,`
pub turn-both : (g : Graph) (scope : ℕ) (k : Task) (c : Sym) (args : List TermId) (s : Seen) → IsHeadedPart g scope k c args → word_kind (word_of c.0) ≡ AndKind → s ≡ both_of k args → IsTurnOf g g scope k s
turn-both g scope k c [] s w e q = subst (IsTurnOf g g scope k) (sym q) (turn-failed g g scope k NotGoal (head-judged g scope k c [] (Some And_word) w (kind-and _ e)))
turn-both g scope k c (d ∷ []) s w e q = subst (IsTurnOf g g scope k) (sym q) (turn-failed g g scope k NotGoal (head-judged g scope k c (d ∷ []) (Some And_word) w (kind-and _ e)))
turn-both g scope k c (d ∷ b ∷ []) s w e q = subst (IsTurnOf g g scope k) (sym q) (record {
  reads = sym (head-judged g scope k c (d ∷ b ∷ []) (Some And_word) w (kind-and _ e) ∙ judged-both (around g k.forms) (reader scope k.pis (read g d.index names)) (reader scope k.pis (read g b.index names)));
  makes_sense = (record { term = w.args_valid.0; forms = w.part.forms }, record { term = w.args_valid.1.0; forms = w.part.forms });
  smaller = (let z = part-size g scope k c (d ∷ b ∷ []) w in omega arith);
})
turn-both g scope k c (d ∷ b ∷ x ∷ xs) s w e q = subst (IsTurnOf g g scope k) (sym q) (turn-failed g g scope k NotGoal (head-judged g scope k c (d ∷ b ∷ x ∷ xs) (Some And_word) w (kind-and _ e)))

-- `:-`
pub turn-conditional : (g : Graph) (scope : ℕ) (k : Task) (c : Sym) (args : List TermId) (s : Seen) → IsHeadedPart g scope k c args → word_kind (word_of c.0) ≡ IfKind → s ≡ conditional_of k args → IsTurnOf g g scope k s
turn-conditional g scope k c [] s w e q = subst (IsTurnOf g g scope k) (sym q) (turn-failed g g scope k NotGoal (head-judged g scope k c [] (Some If_word) w (kind-if _ e)))
turn-conditional g scope k c (d ∷ []) s w e q = subst (IsTurnOf g g scope k) (sym q) (turn-failed g g scope k NotGoal (head-judged g scope k c (d ∷ []) (Some If_word) w (kind-if _ e)))
turn-conditional g scope k c (d ∷ t ∷ []) s w e q = subst (IsTurnOf g g scope k) (sym q) (record {
  reads = judged-twice (around g k.forms) (guarded (read g t.index names) (λ a. if_term a (read g t.index names))) (around g (If t ∷ k.forms)) (around-if g t k.forms) (reader scope k.pis (read g d.index names))
      ∙ sym (head-judged g scope k c (d ∷ t ∷ []) (Some If_word) w (kind-if _ e));
  makes_sense = record { term = w.args_valid.0; forms = (w.args_valid.1.0, w.part.forms) };
  smaller = (let z = part-size g scope k c (d ∷ t ∷ []) w in omega arith);
})
turn-conditional g scope k c (d ∷ b ∷ x ∷ xs) s w e q = subst (IsTurnOf g g scope k) (sym q) (turn-failed g g scope k NotGoal (head-judged g scope k c (d ∷ b ∷ x ∷ xs) (Some If_word) w (kind-if _ e)))

-- `=>`
pub turn-implied : (g : Graph) (scope : ℕ) (k : Task) (c : Sym) (args : List TermId) (s : Seen) → IsHeadedPart g scope k c args → word_kind (word_of c.0) ≡ ImpliesKind → s ≡ implied_of k args → IsTurnOf g g scope k s
turn-implied g scope k c [] s w e q = subst (IsTurnOf g g scope k) (sym q) (turn-failed g g scope k NotGoal (head-judged g scope k c [] (Some Implies_word) w (kind-implies _ e)))
turn-implied g scope k c (d ∷ []) s w e q = subst (IsTurnOf g g scope k) (sym q) (turn-failed g g scope k NotGoal (head-judged g scope k c (d ∷ []) (Some Implies_word) w (kind-implies _ e)))
turn-implied g scope k c (t ∷ d ∷ []) s w e q = subst (IsTurnOf g g scope k) (sym q) (record {
  reads = judged-twice (around g k.forms) (guarded (read g t.index names) (implies_term (read g t.index names))) (around g (Implies t ∷ k.forms)) (around-implies g t k.forms) (reader scope k.pis (read g d.index names))
      ∙ sym (head-judged g scope k c (t ∷ d ∷ []) (Some Implies_word) w (kind-implies _ e));
  makes_sense = record { term = w.args_valid.1.0; forms = (w.args_valid.0, w.part.forms) };
  smaller = (let z = part-size g scope k c (t ∷ d ∷ []) w in omega arith);
})
turn-implied g scope k c (d ∷ b ∷ x ∷ xs) s w e q = subst (IsTurnOf g g scope k) (sym q) (turn-failed g g scope k NotGoal (head-judged g scope k c (d ∷ b ∷ x ∷ xs) (Some Implies_word) w (kind-implies _ e)))

-- `pi`
quantified-part : (g h : Graph) (scope : ℕ) (k : Task) (c : Sym) (f t : TermId) → IsSound g → Grows g h [] [] → IsHeadedPart g scope k c (f ∷ []) → word_kind (word_of c.0) ≡ PiKind →
    read h t.index names ≡ apply (read g f.index names) (names (scope + k.pis)) → IsValid h t.index (suc (scope + k.pis)) → IsTurnOf g h scope k (one (record { term = t; pis = suc k.pis; forms = Pi (scope + k.pis) ∷ k.forms }))
quantified-part g h scope k c f t s grows w e reads valid =
    let deep : scope + suc k.pis ≡ suc (scope + k.pis) = omega arith in
    let body = apply (read g f.index names) (names (scope + k.pis)) in
    let same = fun_ext (λ (x : Assumption). around-grown g h s grows scope (scope + k.pis) k.forms x w.part.forms) in
    record {
      reads = ap (λ (u : Term). judged_map (map (around h (Pi (scope + k.pis) ∷ k.forms))) (reader scope (suc k.pis) u)) reads
          ∙ judged-twice (around h k.forms) (quantified (scope + k.pis)) (around h (Pi (scope + k.pis) ∷ k.forms)) (around-pi h (scope + k.pis) k.forms) (reader scope (suc k.pis) body)
          ∙ ap (λ (p : Assumption → Assumption). judged_map (map p) (judged_map (map (quantified (scope + k.pis))) (reader scope (suc k.pis) body))) same
          ∙ sym (head-judged g scope k c (f ∷ []) (Some Pi_word) w (kind-pi _ e));
      makes_sense = record {
        term = subst (IsValid h t.index) (sym deep) valid;
        forms = (deep, forms-grown g h s grows scope (scope + k.pis) k.forms w.part.forms);
      };
      smaller = (let z = part-size g scope k c (f ∷ []) w in let n = ap constants reads ∙ constants-named (read g f.index names) (scope + k.pis) in omega arith);
    }

pub turn-quantified : (g h : Graph) (scope : ℕ) (k : Task) (c : Sym) (args : List TermId) (s : Seen) → IsSound g → Grows g h [] [] → IsHeadedPart g scope k c args → word_kind (word_of c.0) ≡ PiKind → IsQuantified g h scope k args s → IsTurnOf g h scope k s
turn-quantified g h scope k c [] s d grows w e q = subst (IsTurnOf g h scope k) (sym q) (turn-failed g h scope k NotGoal (head-judged g scope k c [] (Some Pi_word) w (kind-pi _ e)))
turn-quantified g h scope k c (f ∷ []) (one l) d grows w e q =
    let same : l ≡ record { term = l.term; pis = suc k.pis; forms = Pi (scope + k.pis) ∷ k.forms } = λ i. record { term = l.term; pis = q.2 i; forms = q.3 i } in
    subst (λ (x : Task). IsTurnOf g h scope k (one x)) (sym same) (quantified-part g h scope k c f l.term d grows w e q.0 q.1)
turn-quantified g h scope k c (f ∷ []) (kept x) d grows w e q = absurd q
turn-quantified g h scope k c (f ∷ []) (two x y) d grows w e q = absurd q
turn-quantified g h scope k c (f ∷ []) (failed x) d grows w e q = absurd q
turn-quantified g h scope k c (f ∷ b ∷ xs) s d grows w e q = subst (IsTurnOf g h scope k) (sym q) (turn-failed g h scope k NotGoal (head-judged g scope k c (f ∷ b ∷ xs) (Some Pi_word) w (kind-pi _ e)))

-- an atom
clause-part : (g h : Graph) (scope : ℕ) (k : Task) (c : Sym) (args : List TermId) (t : TermId) → IsSound g → Grows g h [] [] → IsHeadedPart g scope k c args → word_kind (word_of c.0) ≡ Free →
    read h t.index names ≡ assumed_around g k.forms (part_term g k) → IsValid h t.index scope → IsTurnOf g h scope k (kept (record { pred = c; depth = scope; pis = k.pis; head = k.term; body = goals_of k.forms; term = t; ground_normal = all_ground_normal h (k.term ∷ t ∷ goals_of k.forms) }))
clause-part g h scope k c args t s grows w e reads valid =
    let head = reads-grown g h s grows k.term.index (scope + k.pis) w.part.term in
    let goals = goals-valid g scope (scope + k.pis) k.forms w.part.forms in
    let conditions = read-grown_all g h (scope + k.pis) s grows (goals_of k.forms) goals ∙ sym (append-nil (all_read g (goals_of k.forms))) in
    let same : assumption_in h (record { pred = c; depth = scope; pis = k.pis; head = k.term; body = goals_of k.forms; term = t; ground_normal = all_ground_normal h (k.term ∷ t ∷ goals_of k.forms) }) ≡ around g k.forms (atom_of scope k.pis c.0 (part_term g k)) =
    λ i. record { pred = c.0; scope = scope; parameters = k.pis; head = head i; conditions = conditions i; assumed = reads i } in
    record {
      reads = ap (λ (x : Assumption). good (x ∷ [])) same
          ∙ sym (head-judged g scope k c args (word_of c.0) w refl ∙ ap (judged_map (map (around g k.forms))) (free-form (reader scope) scope k.pis c.0 (word_of c.0) (all_read g args) (part_term g k) e));
      makes_sense = record {
        head = valid-grown g h s grows k.term.index (scope + k.pis) w.part.term;
        body = valid-grown_all g h (scope + k.pis) s grows (goals_of k.forms) goals;
        term = valid;
        flag = refl;
      };
      smaller = omega arith;
    }

pub turn-clause : (g h : Graph) (scope : ℕ) (k : Task) (c : Sym) (args : List TermId) (s : Seen) → IsSound g → Grows g h [] [] → IsHeadedPart g scope k c args → word_kind (word_of c.0) ≡ Free → IsClause g h scope k c s → IsTurnOf g h scope k s
turn-clause g h scope k c args (kept x) d grows w e q =
    let flag : x.ground_normal ≡ all_ground_normal h (k.term ∷ x.term ∷ goals_of k.forms) = q.7 ∙ ap₂ (λ (t : TermId) (ts : List TermId). all_ground_normal h (t ∷ x.term ∷ ts)) q.3 q.4 in
    let same : x ≡ record { pred = c; depth = scope; pis = k.pis; head = k.term; body = goals_of k.forms; term = x.term; ground_normal = all_ground_normal h (k.term ∷ x.term ∷ goals_of k.forms) } = λ i. record { pred = q.0 i; depth = q.1 i; pis = q.2 i; head = q.3 i; body = q.4 i; term = x.term; ground_normal = flag i } in
    subst (λ (y : Hyp). IsTurnOf g h scope k (kept y)) (sym same) (clause-part g h scope k c args x.term d grows w e q.5 q.6)
turn-clause g h scope k c args (one l) d grows w e q = absurd q
turn-clause g h scope k c args (two l m) d grows w e q = absurd q
turn-clause g h scope k c args (failed f) d grows w e q = absurd q

-- a part of the part in the same heap, read in a heap that grew
pub turn-later : (f g h : Graph) (scope : ℕ) (k : Task) (s : Seen) → IsSound f → Grows f g [] [] → IsPart f scope k → IsTurnOf g h scope k s → IsTurnOf f h scope k s
turn-later f g h scope k s d grows p w = record {
  reads = w.reads ∙ judged-grown f g scope k d grows p;
  makes_sense = w.makes_sense;
  smaller = (let z = size-grown f g scope k d grows p in let y = w.smaller in omega arith);
}
