-- The assumptions of a call, in the heap and in the reference.
use Rattle.std.proofs.Common.{◌≡◌, ℕ, zero, suc, ◌+◌, Bool, true, false, cond, nat_eq, List, [], ◌∷◌, ◌++◌, map, length, drop, replicate, Option, Some, None, ◌||◌, refl, sym, ap, ap₂, ◌∙◌, subst, length-append}
use Rattle.std.proofs.lemmas.List.{length-replicate}
use Rattle.level_terms.specs.Graph.{Graph}
use Rattle.level_terms.specs.Growth.{Grows}
use Rattle.level_terms.specs.Sound.{IsSound}
use Rattle.level_terms.specs.declared.node.TermId.{TermId}
use Rattle.beta_fragment.specs.HeadForm.{all_read, AllValidAt}
use Rattle.beta_fragment.proofs.HeadLemmas.{read-grown_all}
use Rattle.ref_terms.specs.declared.sym.Sym.{Sym}
use Rattle.ref_terms.specs.unification.Spine.{args_of}
use Rattle.ref_terms.specs.search.Program.{Program}
use Rattle.ref_terms.specs.search.Assumption.{Assumption}
use Rattle.ref_terms.specs.search.Instance.{fresh_for_parameter, parameter_instance, assumption_instance}
use Rattle.ref_terms.specs.search.Branch.{Goal, Branch}
use Rattle.ref_terms.specs.search.Candidates.{assumptions_for, from_place, program_candidates}
use Rattle.ref_terms.specs.unification.Unification.{unify}
use Rattle.ref_terms.specs.search.Strip.{is_open}
use Rattle.ref_terms.specs.search.State.{Candidate, of_assumption}
use Rattle.std.specs.List.{list_any}
use Rattle.hyp_clause.specs.declared.hyp.Hyp.{Hyp}
use Rattle.hyp_clause.specs.declared.hyp.HypInstance.{HypInstance}
use Rattle.hyp_clause.specs.Hyps.{assumption_in, IsHypValid, AllHypsValid}
use Rattle.hyp_clause.proofs.HypLemmas.{hyps-read, hyps-valid}
use Rattle.hyp_context.specs.Contexts.{hyps_for}
use Rattle.hyp_context.specs.declared.context.HypTail.{HypTail}
use Rattle.hyp_context.proofs.ContextLemmas.{for-read, for-valid}
use Rattle.search_moves.specs.declared.frame.Later.{Later}
use Rattle.search_moves.specs.declared.frame.Later.TheVariants.{Assumptions, Clauses}
use Rattle.search_moves.specs.World.{IsUsable, AllUsable, IsContextAt}
use Rattle.search_moves.specs.Reading.{first_assumptions, later_of}
use Rattle.search_moves.specs.Instances.{IsMadeOf}
use Rattle.search_moves.specs.Calling.{IsLeftAfter}
use Rattle.search_moves.proofs.MachineLemmas.{drop-map}
use Rattle.search_moves.proofs.FrameLemmas.{all-valid-grown}
use Rattle.search_moves.proofs.OwnLemmas.{stays-headed}

-- what is left after the first of what is left
pub drop-step : {A : Type 0} (i : ℕ) (xs : List A) (y : A) (ys : List A) → drop i xs ≡ y ∷ ys → drop (suc i) xs ≡ ys
drop-step {A} zero [] y ys e = absurd (let z : ◌≡◌ {A = List A} [] (y ∷ ys) = e in cc)
drop-step {A} zero (x ∷ xs) y ys e = let z : ◌≡◌ {A = List A} (x ∷ xs) (y ∷ ys) = e in cc
drop-step {A} (suc i) [] y ys e = absurd (let z : ◌≡◌ {A = List A} [] (y ∷ ys) = e in cc)
drop-step (suc i) (x ∷ xs) y ys e = drop-step i xs y ys e

-- the assumptions that are left read as those that the reference has left
read-left : (g : Graph) (c i : ℕ) (hs : List Hyp) (assumed : List Assumption) → assumed ≡ map (assumption_in g) hs → drop i (assumptions_for c assumed) ≡ map (assumption_in g) (drop i (hyps_for c hs))
read-left g c i hs assumed e = ap (λ xs. drop i (assumptions_for c xs)) e ∙ ap (drop i) (sym (for-read g c hs)) ∙ sym (drop-map (assumption_in g) i (hyps_for c hs))

-- an assumption is tried before the others
pub later-at : (p : Program) (g : Graph) (gs : List Goal) (c i : ℕ) (hs : List Hyp) (h : Hyp) (others : List Hyp) (l m : HypTail) → first_assumptions gs ≡ map (assumption_in g) hs → drop i (hyps_for c hs) ≡ h ∷ others
    → later_of p gs c (Assumptions i l) ≡ of_assumption i (assumption_in g h) ∷ later_of p gs c (Assumptions (suc i) m)
later-at p g gs c i hs h others l m e d =
    let all = assumptions_for c (first_assumptions gs) in
    let rest = program_candidates c 0 p.clauses in
    let left : drop i all ≡ assumption_in g h ∷ map (assumption_in g) others = read-left g c i hs (first_assumptions gs) e ∙ ap (map (assumption_in g)) d in
    ap (λ xs. from_place of_assumption i xs ++ rest) left
    ∙ ap (λ xs. of_assumption i (assumption_in g h) ∷ (from_place of_assumption (suc i) xs ++ rest)) (sym (drop-step i all (assumption_in g h) (map (assumption_in g) others) left))

-- where none is left, the program's clauses are
pub later-none : (p : Program) (g : Graph) (gs : List Goal) (c i : ℕ) (hs : List Hyp) (l : HypTail) → first_assumptions gs ≡ map (assumption_in g) hs → drop i (hyps_for c hs) ≡ []
    → later_of p gs c (Assumptions i l) ≡ later_of p gs c (Clauses 0)
later-none p g gs c i hs l e d =
    ap (λ xs. from_place of_assumption i xs ++ program_candidates c 0 p.clauses) (read-left g c i hs (first_assumptions gs) e ∙ ap (map (assumption_in g)) d)

-- what is left after an assumption

pub after-some : (p : Program) (b : Branch) (c : Sym) (g : Graph) (hs others tail : List Hyp) (i next : ℕ) → first_assumptions b.goals ≡ map (assumption_in g) hs → others ≡ drop i (hyps_for c.0 hs) → (others ≡ [] → ⊥) → next ≡ i
    → IsLeftAfter p b c (later_of p b.goals c.0 (Assumptions i others)) (Some (Assumptions next tail))
after-some p b c g hs [] tail i next e d some n = absurd (some refl)
after-some p b c g hs (h ∷ others) tail i next e d some n = (
  of_assumption i (assumption_in g h),
  later_of p b.goals c.0 (Assumptions (suc i) others),
  later-at p g b.goals c.0 i hs h others (h ∷ others) others e (sym d),
  ap (λ k. later_of p b.goals c.0 (Assumptions k tail)) n,
)

pub after-none : (p : Program) (b : Branch) (c : Sym) (g : Graph) (hs others : List Hyp) (i : ℕ) (later : Option Later) → first_assumptions b.goals ≡ map (assumption_in g) hs → others ≡ drop i (hyps_for c.0 hs) → others ≡ []
    → IsLeftAfter p b c (program_candidates c.0 0 p.clauses) later → IsLeftAfter p b c (later_of p b.goals c.0 (Assumptions i others)) later
after-none p b c g hs others i later e d none is =
    subst (λ cs. IsLeftAfter p b c cs later) (sym (later-none p g b.goals c.0 i hs others e (sym d ∙ none))) is

-- two lists of which nothing passes a test
none-appended : (test : Candidate → Bool) (xs ys : List Candidate) → list_any test xs ≡ false → list_any test ys ≡ false → list_any test (xs ++ ys) ≡ false
none-appended test [] ys e f = f
none-appended test (x ∷ xs) ys e f = by (test x) e (λ k. none-appended test xs ys k f)
  where
    by : (b : Bool) → (b || list_any test xs) ≡ false → (list_any test xs ≡ false → list_any test (xs ++ ys) ≡ false) → (b || list_any test (xs ++ ys)) ≡ false
    by true e f = absurd (let z : true ≡ false = e in cc)
    by false e f = f e

-- where all assumptions that are left clash, and all clauses do, nothing is left
pub after-clashes : (p : Program) (b : Branch) (c : Sym) (g : Graph) (hs others : List Hyp) (i : ℕ) → first_assumptions b.goals ≡ map (assumption_in g) hs → others ≡ drop i (hyps_for c.0 hs)
    → list_any (is_open unify p b) (from_place of_assumption i (map (assumption_in g) others)) ≡ false → list_any (is_open unify p b) (program_candidates c.0 0 p.clauses) ≡ false
    → IsLeftAfter p b c (later_of p b.goals c.0 (Assumptions i others)) None
after-clashes p b c g hs others i e d closed none =
    let test : Candidate → Bool = is_open unify p b in
    let left : drop i (assumptions_for c.0 (first_assumptions b.goals)) ≡ map (assumption_in g) others = read-left g c.0 i hs (first_assumptions b.goals) e ∙ ap (map (assumption_in g)) (sym d) in
    ap (λ xs. list_any test (from_place of_assumption i xs ++ program_candidates c.0 0 p.clauses)) left
    ∙ none-appended test (from_place of_assumption i (map (assumption_in g) others)) (program_candidates c.0 0 p.clauses) closed none

-- what holds of a goal's assumptions holds of those that are left

valid-dropped : (g : Graph) (i : ℕ) (hs : List Hyp) → AllHypsValid g hs → AllHypsValid g (drop i hs)
valid-dropped g zero hs v = v
valid-dropped g (suc i) [] v = tt
valid-dropped g (suc i) (h ∷ hs) v = valid-dropped g i hs v.1

usable-dropped : (g : Graph) (d i : ℕ) (hs : List Hyp) → AllUsable g d hs → AllUsable g d (drop i hs)
usable-dropped g d zero hs v = v
usable-dropped g d (suc i) [] v = tt
usable-dropped g d (suc i) (h ∷ hs) v = usable-dropped g d i hs v.1

usable-for : (g : Graph) (d c : ℕ) (hs : List Hyp) → AllUsable g d hs → AllUsable g d (hyps_for c hs)
usable-for g d c [] v = tt
usable-for g d c (h ∷ hs) v = go (nat_eq c h.pred.0) (usable-for g d c hs v.1)
  where
    go : (b : Bool) → AllUsable g d (hyps_for c hs) → AllUsable g d (cond b (h ∷ hyps_for c hs) (hyps_for c hs))
    go true w = (v.0, w)
    go false w = w

pub hyp-there : (g : Graph) (d c i : ℕ) (hs : List Hyp) (h : Hyp) (others : List Hyp) → IsContextAt g d hs → drop i (hyps_for c hs) ≡ h ∷ others → IsHypValid g h × IsUsable g d h
hyp-there g d c i hs h others v e = (
  (subst (AllHypsValid g) e (valid-dropped g i (hyps_for c hs) (for-valid g c hs v.valid))).0,
  (subst (AllUsable g d) e (usable-dropped g d i (hyps_for c hs) (usable-for g d c hs v.usable))).0,
)

pub hyps-left : (g : Graph) (d c i : ℕ) (hs : List Hyp) → IsContextAt g d hs → AllHypsValid g (drop i (hyps_for c hs)) × AllUsable g d (drop i (hyps_for c hs))
hyps-left g d c i hs v =
    (valid-dropped g i (hyps_for c hs) (for-valid g c hs v.valid), usable-dropped g d i (hyps_for c hs) (usable-for g d c hs v.usable))

-- an assumption in the heap

pub args-of_assumption : (a : Assumption) (g : Graph) (h : Hyp) (d depth next : ℕ) → a ≡ assumption_in g h → IsUsable g d h → args_of (parameter_instance a depth next a.head) ≡ map (parameter_instance a depth next) (args_of a.head)
args-of_assumption a g h d depth next e u =
    subst (λ x. args_of (parameter_instance x depth next x.head) ≡ map (parameter_instance x depth next) (args_of x.head)) (sym e)
    (stays-headed (fresh_for_parameter (assumption_in g h) depth next) h.pred.0 refl (assumption_in g h).head u.head).1

pub one-read : (g0 g1 : Graph) (h : Hyp) → IsSound g0 → Grows g0 g1 [] [] → IsHypValid g0 h → assumption_in g1 h ≡ assumption_in g0 h
one-read g0 g1 h sound grows v =
    let e : ◌≡◌ {A = List Assumption} (assumption_in g1 h ∷ []) (assumption_in g0 h ∷ []) = hyps-read g0 g1 (h ∷ []) sound grows (v, tt) in cc

pub one-valid : (g0 g1 : Graph) (h : Hyp) → IsSound g0 → Grows g0 g1 [] [] → IsHypValid g0 h → IsHypValid g1 h
one-valid g0 g1 h sound grows v = (hyps-valid g0 g1 [] [] (h ∷ []) sound grows (v, tt)).0

pub made-assumed : (g0 g1 g2 : Graph) (h : Hyp) (head : HypInstance) (body : List TermId) (depth : ℕ) → IsSound g0 → IsSound g1 → IsUsable g0 depth h → IsHypValid g0 h → Grows g0 g1 [] [] → Grows g1 g2 [] []
    → all_read g1 head.args.items ≡ map (parameter_instance (assumption_in g0 h) depth (length g0.depths)) (args_of (assumption_in g0 h).head) → AllValidAt g1 head.args.items depth
    → head.first_fresh.index ≡ length g0.depths → head.depth ≡ depth → g1.depths ≡ g0.depths ++ replicate h.pis depth → g2.depths ≡ g1.depths
    → all_read g2 body ≡ map (parameter_instance (assumption_in g1 h) head.depth head.first_fresh.index) (assumption_in g1 h).conditions → AllValidAt g2 body head.depth
    → IsMadeOf (assumption_instance (assumption_in g0 h) depth (length g0.depths)) depth g2 head.args.items body
made-assumed g0 g1 g2 h head body depth sound0 sound1 usable valid grows1 grows2 args args_valid first at depths1 depths2 conditions body_valid =
    let a = assumption_in g0 h in
    let n = length g0.depths in
    record {
      head = record {
        heads = read-grown_all g1 g2 depth sound1 grows2 head.args.items args_valid ∙ args ∙ sym (args-of_assumption a g0 h depth depth n refl usable);
        variables = ap length depths2 ∙ ap length depths1 ∙ length-append g0.depths (replicate h.pis depth) ∙ ap (λ k. n + k) (length-replicate h.pis depth);
        heads_valid = all-valid-grown g1 g2 [] [] depth sound1 grows2 head.args.items args_valid;
      };
      body = conditions ∙ ap (λ x. map (parameter_instance x head.depth head.first_fresh.index) x.conditions) (one-read g0 g1 h sound0 grows1 valid) ∙ ap₂ (λ d k. map (parameter_instance a d k) a.conditions) at first;
      body_valid = subst (AllValidAt g2 body) at body_valid;
    }
