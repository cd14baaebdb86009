-- A whole run of unification on a renamed problem.
use Rattle.std.proofs.Common.{◌≡◌, ℕ, zero, suc, ◌≤◌, Bool, true, false, cond, ◌&&◌, nat_eq, List, [], ◌∷◌, length, refl, ap, ◌∙◌, Option, Some, None, option_map, arith, subst}
use Rattle.ref_terms.specs.terms.Term.{Term}
use Rattle.ref_terms.specs.unification.Shape.{Shape, Abstraction, Redex, Rigid, Flex, shape}
use Rattle.ref_terms.specs.unification.Pattern.{SpineName, pattern_of, names_of}
use Rattle.ref_terms.specs.unification.Offence.{Verdict, fine, redex, scope, itself, foreign, dropped, offence}
use Rattle.ref_terms.specs.unification.Problem.{Equation, Problem, Answer, Solved, Clashed, Faulted, Step, Goes, Ends}
use Rattle.ref_terms.specs.unification.Rules.{by_verdict, bind_to, flex_flex, head_eq, rule, step_at, step}
use Rattle.ref_terms.specs.unification.Run.{after, run}
use Rattle.ref_terms.specs.unification.Renamed.{renamed, renamed_answer, renamed_step, IsRenaming}
use Rattle.ref_terms.proofs.unification.RenamedLemmas.{step-vars}

-- the next variable doesn't fall
abbrev pub Grown : ℕ → Step → Type 0
Grown lo (Goes q) = lo ≤ q.next_var
Grown lo (Ends (Solved q)) = lo ≤ q.next_var
Grown lo (Ends _) = Unit {0}

grown-cond : (lo : ℕ) (b : Bool) (s t : Step) → Grown lo s → Grown lo t → Grown lo (cond b s t)
grown-cond lo true s t v w = v
grown-cond lo false s t v w = w

module _ (m lo : ℕ) (q : Problem) (low : lo ≤ q.next_var) where
  suc_low : lo ≤ suc q.next_var
  suc_low = omega arith

  verdict-grown : (v : ℕ) (ns : List ℕ) (t : Term) (e : Equation) (es : List Equation) (w : Verdict) → Grown lo (by_verdict v ns t e es q w)
  verdict-grown v ns t e es fine = low
  verdict-grown v ns t e es redex = tt
  verdict-grown v ns t e es scope = tt
  verdict-grown v ns t e es itself = tt
  verdict-grown v ns t e es foreign = tt
  verdict-grown v ns t e es (dropped y i n) = suc_low

  bind_to-grown : (v : ℕ) (o : Option (List SpineName)) (t : Term) (e : Equation) (es : List Equation) → Grown lo (bind_to m v o t e es q)
  bind_to-grown v None t e es = tt
  bind_to-grown v (Some xs) t e es = verdict-grown v (names_of xs) t e es (offence m v (names_of xs) false t)

  flex_flex-grown : (v w : ℕ) (o r : Option (List SpineName)) (e : Equation) (es : List Equation) → Grown lo (flex_flex m v w o r e es q)
  flex_flex-grown v w (Some xs) (Some ys) e es = grown-cond lo (nat_eq v w) _ _ (grown-cond lo (nat_eq (length xs) (length ys)) _ _ suc_low tt) suc_low
  flex_flex-grown v w (Some xs) None e es = grown-cond lo (nat_eq v w) _ _ tt (bind_to-grown v (Some xs) e.right e es)
  flex_flex-grown v w None r e es = grown-cond lo (nat_eq v w) _ _ tt (bind_to-grown w r e.left e es)

  rule-grown : (s t : Shape) (e : Equation) (es : List Equation) → Grown lo (rule m s t e es q)
  rule-grown Redex t e es = tt
  rule-grown Abstraction Redex e es = tt
  rule-grown (Rigid h xs) Redex e es = tt
  rule-grown (Flex v xs) Redex e es = tt
  rule-grown (Rigid h xs) (Rigid k ys) e es = grown-cond lo (head_eq h k && nat_eq (length xs) (length ys)) _ _ low tt
  rule-grown (Flex v xs) (Rigid k ys) e es = bind_to-grown v (pattern_of xs) e.right e es
  rule-grown (Rigid h xs) (Flex w ys) e es = bind_to-grown w (pattern_of ys) e.left e es
  rule-grown (Flex v xs) (Flex w ys) e es = flex_flex-grown v w (pattern_of xs) (pattern_of ys) e es
  rule-grown Abstraction Abstraction e es = low
  rule-grown Abstraction (Rigid k ys) e es = low
  rule-grown Abstraction (Flex w ys) e es = low
  rule-grown (Rigid h xs) Abstraction e es = low
  rule-grown (Flex v xs) Abstraction e es = low

  step-grown : Grown lo (step m q)
  unfolding step
  step-grown = go q.equations
    where
      go : (es : List Equation) → Grown lo (step_at m es q)
      go [] = low
      go (e ∷ es) = rule-grown (shape m e.left) (shape m e.right) e es

-- the numbers from lo on are renamed in order
abbrev pub InOrderFrom : (ℕ → ℕ) → ℕ → Type 0
InOrderFrom p lo = (k : ℕ) → lo ≤ k → p (suc k) ≡ suc (p k)

after-renamed : (p : ℕ → ℕ) (lo : ℕ) (f g : Problem → Option Answer) → ((q : Problem) → lo ≤ q.next_var → g (renamed p q) ≡ option_map (renamed_answer p) (f q)) → (s : Step) → Grown lo s → after g (renamed_step p s) ≡ option_map (renamed_answer p) (after f s)
after-renamed p lo f g h (Goes q) w = h q w
after-renamed p lo f g h (Ends a) w = refl

pub run-renamed : (p : ℕ → ℕ) (m m' : ℕ) → IsRenaming p m m' → (lo : ℕ) → InOrderFrom p lo → (n : ℕ) (q : Problem) → lo ≤ q.next_var → run m' n (renamed p q) ≡ option_map (renamed_answer p) (run m n q)
run-renamed p m m' good lo fresh zero q low = refl
run-renamed p m m' good lo fresh (suc n) q low =
    ap (after (run m' n)) (step-vars p m m' good q (fresh q.next_var low))
    ∙ after-renamed p lo (run m n) (run m' n) (λ r v. run-renamed p m m' good lo fresh n r v) (step m q) (step-grown m lo q low)

after-grown : (lo : ℕ) (f : Problem → Option Answer) → ((q : Problem) → lo ≤ q.next_var → (r : Problem) → f q ≡ Some (Solved r) → lo ≤ r.next_var) → (s : Step) → Grown lo s → (r : Problem) → after f s ≡ Some (Solved r) → lo ≤ r.next_var
after-grown lo f h (Goes q) w r e = h q w r e
after-grown lo f h (Ends (Solved q)) w r e = let same : q ≡ r = cc in subst (λ (z : Problem). lo ≤ z.next_var) same w
after-grown lo f h (Ends (Clashed k)) w r e = absurd (let z : Some (Clashed k) ≡ Some (Solved r) = e in cc)
after-grown lo f h (Ends (Faulted k)) w r e = absurd (let z : Some (Faulted k) ≡ Some (Solved r) = e in cc)

-- the next variable of the answer is no lower
pub run-grown : (m lo n : ℕ) (q : Problem) → lo ≤ q.next_var → (r : Problem) → run m n q ≡ Some (Solved r) → lo ≤ r.next_var
run-grown m lo zero q low r e = absurd (let z : None ≡ Some (Solved r) = e in cc)
run-grown m lo (suc n) q low r e = after-grown lo (run m n) (λ q v r d. run-grown m lo n q v r d) (step m q) (step-grown m lo q low) r e
