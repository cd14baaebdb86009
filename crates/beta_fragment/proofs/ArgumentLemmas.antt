-- Terms that are applied one after the other.
use Rattle.std.proofs.Common.{◌≡◌, ℕ, zero, suc, ◌<◌, ◌+◌, ◌++◌, List, [], ◌∷◌, length, reverse, drop, get_or, refl, sym, ap, ap₂, ◌∙◌, arith, subst, append_assoc}
use Rattle.std.proofs.lemmas.List.{reverse-append, map-append}
use Rattle.std.proofs.Math.Seq.{drop-cons, drop-length}
use Rattle.level_terms.specs.declared.node.TermId.{TermId}
use Rattle.level_terms.specs.Graph.{Graph}
use Rattle.level_terms.specs.Valid.{IsValid}
use Rattle.level_terms.specs.Reading.{read, levels}
use Rattle.level_terms.proofs.LocalLemmas.{readings_local}
use Rattle.ref_terms.specs.terms.Term.{Term}
use Rattle.ref_terms.specs.terms.Apply.{apply}
use Rattle.ref_terms.specs.unification.Spine.{apply_all}
use Rattle.beta_fragment.specs.Names.{names, renamed}
use Rattle.beta_fragment.specs.HeadForm.{all_read, AllValidAt}
use Rattle.beta_fragment.specs.declared.evaluating.Task.{Task}
use Rattle.beta_fragment.specs.declared.evaluating.Task.TheVariants.{Visit, App}
use Rattle.beta_fragment.specs.inside.Evaluation.{arg_tasks}

-- an argument of a list that was valid from the last one on
valid-split : (g : Graph) (d : ℕ) (ts : List TermId) (t : TermId) → AllValidAt g (ts ++ t ∷ []) d → AllValidAt g ts d × IsValid g t.index d
valid-split g d [] t v = (tt, v.0)
valid-split g d (u ∷ us) t v = let rest = valid-split g d us t v.1 in ((v.0, rest.0), rest.1)

all-turned : (g : Graph) (d : ℕ) (ts : List TermId) → AllValidAt g (reverse ts) d → AllValidAt g ts d
all-turned g d [] v = tt
all-turned g d (t ∷ ts) v =
    let parts = valid-split g d (reverse ts) t (subst (λ us. AllValidAt g us d) (reverse-append (t ∷ []) ts) v) in
    (parts.1, all-turned g d ts parts.0)

valid-at : (g : Graph) (d : ℕ) (ts : List TermId) (i : ℕ) (x : TermId) → i < length ts → AllValidAt g ts d → IsValid g (get_or ts i x).index d
valid-at g d [] i x h v = absurd (omega arith)
valid-at g d (t ∷ ts) zero x h v = v.0
valid-at g d (t ∷ ts) (suc i) x h v = valid-at g d ts i x (omega (arith, h)) v.1

pub valid-turned : (g : Graph) (d : ℕ) (ts : List TermId) (i : ℕ) (x : TermId) → i < length ts → AllValidAt g (reverse ts) d → IsValid g (get_or ts i x).index d
valid-turned g d ts i x h v = valid-at g d ts i x h (all-turned g d ts v)

-- one more argument
apply-next : (f : Term) (xs : List Term) (x : Term) → apply_all f (xs ++ x ∷ []) ≡ apply (apply_all f xs) x
apply-next f [] x = refl
apply-next f (y ∷ ys) x = apply-next (apply f y) ys x

next-arg : (g : Graph) (ts : List TermId) (i : ℕ) (x : TermId) → i < length ts → all_read g (reverse (drop i ts)) ≡ all_read g (reverse (drop (suc i) ts)) ++ read g (get_or ts i x).index names ∷ []
next-arg g ts i x h =
    ap (λ us. all_read g (reverse us)) (drop-cons ts i x h)
    ∙ ap (all_read g) (reverse-append (get_or ts i x ∷ []) (drop (suc i) ts))
    ∙ map-append (λ (t : TermId). read g t.index names) (reverse (drop (suc i) ts)) (get_or ts i x ∷ [])

pub arg-applied : (g : Graph) (f : Term) (ts : List TermId) (i : ℕ) (x : TermId) (before after arg : Term) → i < length ts →
    before ≡ apply_all f (all_read g (reverse (drop (suc i) ts))) → arg ≡ read g (get_or ts i x).index names → after ≡ apply before arg → after ≡ apply_all f (all_read g (reverse (drop i ts)))
arg-applied g f ts i x before after arg h e q w =
    w ∙ ap₂ apply e q
    ∙ sym (ap (apply_all f) (next-arg g ts i x h) ∙ apply-next f (all_read g (reverse (drop (suc i) ts))) (read g (get_or ts i x).index names))

pub no-args : (g : Graph) (f : Term) (ts : List TermId) (n : ℕ) → n ≡ length ts → apply_all f (all_read g (reverse (drop n ts))) ≡ f
no-args g f ts n e = ap (λ us. apply_all f (all_read g (reverse us))) (ap (λ k. drop k ts) e ∙ drop-length ts)

-- the levels are their own names
pub own-reads : (g : Graph) (t d : ℕ) (ls : List ℕ) → IsValid g t d → ((i : ℕ) → i < d → get_or ls i 0 ≡ i) → read g t (renamed ls) ≡ read g t names
own-reads g t d ls v own = readings_local g t d (renamed ls) names v (λ i h. ap names (own i h))

-- one more level
levels-last : (d : ℕ) (e : ℕ → Term) → levels (suc d) e ≡ levels d e ++ e d ∷ []
levels-last zero e = refl
levels-last (suc d) e = ap (λ (xs : List Term). e 0 ∷ xs) (levels-last d (λ i. e (suc i)))

pub level-applied : (f : Term) (d : ℕ) (e : ℕ → Term) (before after arg : Term) → before ≡ apply_all f (levels d e) → arg ≡ e d → after ≡ apply before arg → after ≡ apply_all f (levels (d + 1) e)
level-applied f d e before after arg p q w =
    w ∙ ap₂ apply p q
    ∙ sym (ap (λ k. apply_all f (levels k e)) (let z : d + 1 ≡ suc d = omega arith in z) ∙ ap (apply_all f) (levels-last d e) ∙ apply-next f (levels d e) (e d))

-- tasks that are pushed from the last one on
pub pushed-arg : (old work one two : List Task) (ts : List TermId) (i : ℕ) (x : TermId) → i < length ts → work ≡ old ++ reverse (arg_tasks (drop (suc i) ts)) → one ≡ work ++ App ∷ [] → two ≡ one ++ Visit (get_or ts i x) ∷ [] → two ≡ old ++ reverse (arg_tasks (drop i ts))
pushed-arg old work one two ts i x h e f q =
    q ∙ ap (λ (ws : List Task). ws ++ Visit (get_or ts i x) ∷ []) (f ∙ ap (λ (ws : List Task). ws ++ App ∷ []) e)
    ∙ append_assoc (old ++ reverse (arg_tasks (drop (suc i) ts))) (App ∷ []) (Visit (get_or ts i x) ∷ [])
    ∙ append_assoc old (reverse (arg_tasks (drop (suc i) ts))) (App ∷ Visit (get_or ts i x) ∷ [])
    ∙ ap (λ (ws : List Task). old ++ ws) (sym (ap (λ us. reverse (arg_tasks us)) (drop-cons ts i x h) ∙ reverse-append (Visit (get_or ts i x) ∷ App ∷ []) (arg_tasks (drop (suc i) ts))))

pub pushed-none : (ts : List TermId) (n : ℕ) → n ≡ length ts → arg_tasks (drop n ts) ≡ []
pushed-none ts n e = ap arg_tasks (ap (λ k. drop k ts) e ∙ drop-length ts)

pub pushed-app : (old one two : List Task) (head : TermId) (args : List TermId) → one ≡ old ++ reverse (arg_tasks args) → two ≡ one ++ Visit head ∷ [] → two ≡ old ++ (reverse (arg_tasks args) ++ Visit head ∷ [])
pushed-app old one two head args e f = f ∙ ap (λ (ws : List Task). ws ++ Visit head ∷ []) e ∙ append_assoc old (reverse (arg_tasks args)) (Visit head ∷ [])
